-- A filter just made, and one frame later. Assumes nothing.
use Rattle.std.proofs.Common.{◌≡◌, ℕ, zero, suc, ◌-◌, ◌≤◌, List, [], ◌∷◌, ◌++◌, length, get_or, take, drop, replicate, ℤ, pos, sym, ap, ◌∙◌, arith}
use Rattle.frames.specs.declared.frame.Frame.{Frame}
use Rattle.frames.specs.Filter.{filtered, filtered_frame}
use Rattle.frames.specs.Mirror.{recent}
use Rattle.frames.proofs.Weights.{later_taps_of_zero, silence_before, enough_inputs}

-- earlier inputs are 0, and so are the taps that fill it up
pub just_made : (taps : List ℤ) (count : ℕ) (first : ℤ) (later left right : List ℤ) (newest : ℕ) → length taps ≡ 32 → 1 ≤ count → first ≡ get_or taps 0 (pos 0)
    → later ≡ take (count - 1) (drop 1 taps) ++ replicate (32 - (count - 1)) (pos 0) → newest ≡ 0 → left ≡ replicate 64 (pos 0) → right ≡ replicate 64 (pos 0)
    → (fs : List Frame) → filtered (first ∷ later) (recent newest left) (recent newest right) fs ≡ filtered (take count taps) [] [] fs
just_made [] count first later left right newest l c f e n p q fs = absurd (omega arith)
just_made (t ∷ ts) zero first later left right newest l c f e n p q fs = absurd (omega arith)
just_made (t ∷ ts) (suc k) first later left right newest l c f e n p q fs =
    let less : suc k - 1 ≡ k = omega arith in
    let all : later ≡ take k ts ++ replicate (32 - k) (pos 0) = e ∙ ap (λ (i : ℕ). take i ts ++ replicate (32 - i) (pos 0)) less in
    ap (λ z. filtered (z ∷ later) (recent newest left) (recent newest right) fs) f
    ∙ ap (λ z. filtered (t ∷ z) (recent newest left) (recent newest right) fs) all
    ∙ later_taps_of_zero (t ∷ take k ts) (recent newest left) (recent newest right) (32 - k) fs
    ∙ ap (λ i. filtered (t ∷ take k ts) (recent i left) (recent i right) fs) n
    ∙ ap (λ z. filtered (t ∷ take k ts) (recent 0 z) (recent 0 right) fs) p
    ∙ ap (λ z. filtered (t ∷ take k ts) (replicate 32 (pos 0)) (recent 0 z) fs) q
    ∙ silence_before (t ∷ take k ts) [] [] 32 fs

-- what 33 taps make of a frame and those after it
pub one_frame_later : (ts ls rs ls' rs' : List ℤ) (f : Frame) → length ts ≡ 33 → ls' ≡ take 32 (f.left ∷ ls) → rs' ≡ take 32 (f.right ∷ rs)
    → (fs : List Frame) → filtered ts ls rs (f ∷ fs) ≡ filtered_frame ts ls rs f ∷ filtered ts ls' rs' fs
one_frame_later ts ls rs ls' rs' f n p q fs =
    ap (λ z. filtered_frame ts ls rs f ∷ z)
    (sym (ap (λ z. filtered ts z rs' fs) p ∙ ap (λ z. filtered ts (take 32 (f.left ∷ ls)) z fs) q ∙ enough_inputs ts (f.left ∷ ls) (f.right ∷ rs) 32 fs (omega arith)))
