-- Weighted sums: one tap more, taps and inputs of 0, and how far back a sum reaches. Assumes nothing.
use Rattle.std.proofs.Common.{◌≡◌, ℕ, zero, suc, ◌+◌, ◌<◌, ◌≤◌, List, [], ◌∷◌, ◌++◌, length, get_or, take, replicate, ℤ, pos, ◌+ℤ◌, ◌*ℤ◌, sym, refl, ap, ◌∙◌, add-one, arith}
use lib.IntN.{+ℤ_assoc, +ℤ_idl, +ℤ_idr, zero-*ℤ, *ℤ-zero}
use Rattle.frames.specs.declared.frame.Frame.{Frame}
use Rattle.frames.specs.Samples.{floor_div, limited}
use Rattle.frames.specs.Filter.{weighted, filtered_sample, filtered}

weighted_suc : (ts ys : List ℤ) (i : ℕ) → i < length ts → i < length ys → weighted (take (suc i) ts) ys ≡ weighted (take i ts) ys +ℤ get_or ts i (pos 0) *ℤ get_or ys i (pos 0)
weighted_suc [] ys i p q = absurd (omega arith)
weighted_suc (t ∷ ts) [] i p q = absurd (omega arith)
weighted_suc (t ∷ ts) (y ∷ ys) zero p q = +ℤ_idr (t *ℤ y) ∙ sym (+ℤ_idl (t *ℤ y))
weighted_suc (t ∷ ts) (y ∷ ys) (suc i) p q =
    ap (λ z. t *ℤ y +ℤ z) (weighted_suc ts ys i (omega arith) (omega arith)) ∙ sym (+ℤ_assoc (t *ℤ y) (weighted (take i ts) ys) (get_or ts i (pos 0) *ℤ get_or ys i (pos 0)))

pub weighted_more : (ts ys : List ℤ) (i : ℕ) → i < length ts → i < length ys → weighted (take (i + 1) ts) ys ≡ weighted (take i ts) ys +ℤ get_or ts i (pos 0) *ℤ get_or ys i (pos 0)
weighted_more ts ys i p q = rw (add-one i) (weighted_suc ts ys i p q)

no_weight : (n : ℕ) (ys : List ℤ) → weighted (replicate n (pos 0)) ys ≡ pos 0
no_weight zero ys = refl
no_weight (suc n) [] = refl
no_weight (suc n) (y ∷ ys) = ap (λ z. z +ℤ weighted (replicate n (pos 0)) ys) (zero-*ℤ y) ∙ +ℤ_idl (weighted (replicate n (pos 0)) ys) ∙ no_weight n ys

no_input : (ts : List ℤ) (n : ℕ) → weighted ts (replicate n (pos 0)) ≡ pos 0
no_input [] n = refl
no_input (t ∷ ts) zero = refl
no_input (t ∷ ts) (suc n) = ap (λ z. z +ℤ weighted ts (replicate n (pos 0))) (*ℤ-zero t) ∙ +ℤ_idl (weighted ts (replicate n (pos 0))) ∙ no_input ts n

taps_of_zero : (ts : List ℤ) (n : ℕ) (ys : List ℤ) → weighted (ts ++ replicate n (pos 0)) ys ≡ weighted ts ys
taps_of_zero [] n ys = no_weight n ys
taps_of_zero (t ∷ ts) n [] = refl
taps_of_zero (t ∷ ts) n (y ∷ ys) = ap (λ z. t *ℤ y +ℤ z) (taps_of_zero ts n ys)

inputs_of_zero : (ts ys : List ℤ) (n : ℕ) → weighted ts (ys ++ replicate n (pos 0)) ≡ weighted ts ys
inputs_of_zero [] ys n = refl
inputs_of_zero (t ∷ ts) [] n = no_input (t ∷ ts) n
inputs_of_zero (t ∷ ts) (y ∷ ys) n = ap (λ z. t *ℤ y +ℤ z) (inputs_of_zero ts ys n)

reach : (ts ys : List ℤ) (n : ℕ) → length ts ≤ n → weighted ts (take n ys) ≡ weighted ts ys
reach [] ys n h = refl
reach (t ∷ ts) ys zero h = absurd (omega arith)
reach (t ∷ ts) [] (suc n) h = refl
reach (t ∷ ts) (y ∷ ys) (suc n) h = ap (λ z. t *ℤ y +ℤ z) (reach ts ys n (omega arith))

rounded : ℤ → ℤ
rounded z = limited (floor_div (z +ℤ pos 16384) 32768)

-- two samples and what follows, where the sums are the same
framed : (ts ts' ls ls' rs rs' : List ℤ) (A B : List Frame) → weighted ts ls ≡ weighted ts' ls' → weighted ts rs ≡ weighted ts' rs' → A ≡ B
    → ◌≡◌ {A = List Frame} (record { left = filtered_sample ts ls; right = filtered_sample ts rs } ∷ A) (record { left = filtered_sample ts' ls'; right = filtered_sample ts' rs' } ∷ B)
unfolding rounded
framed ts ts' ls ls' rs rs' A B p q r =
    ap (λ z. record { left = rounded z; right = filtered_sample ts rs } ∷ A) p
    ∙ ap (λ z. record { left = filtered_sample ts' ls'; right = rounded z } ∷ A) q
    ∙ ap (λ z. record { left = filtered_sample ts' ls'; right = filtered_sample ts' rs' } ∷ z) r

pub later_taps_of_zero : (ts ls rs : List ℤ) (n : ℕ) (fs : List Frame) → filtered (ts ++ replicate n (pos 0)) ls rs fs ≡ filtered ts ls rs fs
later_taps_of_zero ts ls rs n [] = refl
later_taps_of_zero ts ls rs n (f ∷ fs) =
    framed (ts ++ replicate n (pos 0)) ts (f.left ∷ ls) (f.left ∷ ls) (f.right ∷ rs) (f.right ∷ rs) _ _
    (taps_of_zero ts n (f.left ∷ ls)) (taps_of_zero ts n (f.right ∷ rs)) (later_taps_of_zero ts (f.left ∷ ls) (f.right ∷ rs) n fs)

pub silence_before : (ts ls rs : List ℤ) (n : ℕ) (fs : List Frame) → filtered ts (ls ++ replicate n (pos 0)) (rs ++ replicate n (pos 0)) fs ≡ filtered ts ls rs fs
silence_before ts ls rs n [] = refl
silence_before ts ls rs n (f ∷ fs) =
    framed ts ts (f.left ∷ (ls ++ replicate n (pos 0))) (f.left ∷ ls) (f.right ∷ (rs ++ replicate n (pos 0))) (f.right ∷ rs) _ _
    (inputs_of_zero ts (f.left ∷ ls) n) (inputs_of_zero ts (f.right ∷ rs) n) (silence_before ts (f.left ∷ ls) (f.right ∷ rs) n fs)

-- with n + 1 taps, n earlier inputs are enough
pub enough_inputs : (ts ls rs : List ℤ) (n : ℕ) (fs : List Frame) → length ts ≤ suc n → filtered ts (take n ls) (take n rs) fs ≡ filtered ts ls rs fs
enough_inputs ts ls rs n [] h = refl
enough_inputs ts ls rs n (f ∷ fs) h =
    framed ts ts (f.left ∷ take n ls) (f.left ∷ ls) (f.right ∷ take n rs) (f.right ∷ rs) _ _
    (reach ts (f.left ∷ ls) (suc n) h) (reach ts (f.right ∷ rs) (suc n) h) (enough_inputs ts (f.left ∷ ls) (f.right ∷ rs) (suc n) fs (omega arith))
