-- What the sums are in other words, and what they make of A followed by B. Assumes nothing.
use Rattle.std.proofs.Common.{◌≡◌, ℕ, zero, suc, ◌+◌, ◌-◌, ◌*◌, ◌<◌, List, [], ◌∷◌, ◌++◌, map, reverse, get_or, ℤ, sym, refl, ap, ◌∙◌, suc-mul, zero-mul, arith}
use Rattle.std.proofs.lemmas.List.{append_assoc, reverse-append}
use Rattle.frames.specs.declared.frame.Frame.{Frame}
use Rattle.frames.specs.Filter.{filtered, filtered_frame}
use Rattle.frames.specs.Keep.{kept, falling}

behind : {X : Type 0} (x : X) (xs ys : List X) → reverse (x ∷ xs) ++ ys ≡ reverse xs ++ (x ∷ ys)
behind x xs ys = ap (λ z. z ++ ys) (reverse-append (x ∷ []) xs) ∙ append_assoc (reverse xs) (x ∷ []) ys

pub filter_joins : (ts ls rs : List ℤ) (A B : List Frame)
    → filtered ts ls rs (A ++ B) ≡ filtered ts ls rs A ++ filtered ts (reverse (map (λ f. f.left) A) ++ ls) (reverse (map (λ f. f.right) A) ++ rs) B
filter_joins ts ls rs [] B = refl
filter_joins ts ls rs (f ∷ A) B =
    ap (λ z. filtered_frame ts ls rs f ∷ z)
    (filter_joins ts (f.left ∷ ls) (f.right ∷ rs) A B
    ∙ ap (λ z. filtered ts (f.left ∷ ls) (f.right ∷ rs) A ++ filtered ts z (reverse (map (λ f. f.right) A) ++ (f.right ∷ rs)) B) (sym (behind f.left (map (λ f. f.left) A) ls))
    ∙ ap (λ z. filtered ts (f.left ∷ ls) (f.right ∷ rs) A ++ filtered ts (reverse (map (λ f. f.left) (f ∷ A)) ++ ls) z B) (sym (behind f.right (map (λ f. f.right) A) rs)))

pub keep_joins : {F : Type 0} (M k : ℕ) (A B : List F) → kept M k (A ++ B) ≡ kept M k A ++ kept M (falling M k A) B
keep_joins M k [] B = refl
keep_joins M zero (f ∷ A) B = ap (λ z. f ∷ z) (keep_joins M (M - 1) A B)
keep_joins M (suc k) (f ∷ A) B = keep_joins M k A B

kept_at : {F : Type 0} (M : ℕ) → 0 < M → (k : ℕ) (fs : List F) (i : ℕ) (d : F) → get_or (kept M k fs) i d ≡ get_or fs (k + i * M) d
kept_at M h k [] i d = refl
kept_at M h zero (f ∷ fs) zero d = let e : 0 + 0 * M ≡ 0 = omega (arith, zero-mul M) in sym (ap (λ n. get_or (f ∷ fs) n d) e)
kept_at M h zero (f ∷ fs) (suc i) d =
    let e : 0 + suc i * M ≡ suc (M - 1 + i * M) = omega (arith, suc-mul i M) in
    kept_at M h (M - 1) fs i d ∙ sym (ap (λ n. get_or (f ∷ fs) n d) e)
kept_at M h (suc k) (f ∷ fs) i d =
    let e : suc k + i * M ≡ suc (k + i * M) = omega arith in
    kept_at M h k fs i d ∙ sym (ap (λ n. get_or (f ∷ fs) n d) e)

pub keeps_every_mth : {F : Type 0} (M : ℕ) → 0 < M → (fs : List F) (i : ℕ) (d : F) → get_or (kept M 0 fs) i d ≡ get_or fs (i * M) d
keeps_every_mth M h fs i d = let e : 0 + i * M ≡ i * M = omega arith in kept_at M h 0 fs i d ∙ ap (λ n. get_or fs n d) e
