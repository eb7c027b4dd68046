-- Mixing into a list, one frame more. Assumes nothing.
use Rattle.std.proofs.Common.{◌≡◌, ℕ, zero, suc, ◌+◌, ◌<◌, ◌≤◌, min, List, [], ◌∷◌, ◌++◌, length, get_or, take, set, sym, refl, ap, add-one, arith}
use Rattle.frames.specs.declared.frame.Frame.{Frame}
use Rattle.frames.specs.Samples.{mixed, mixed_all}

pub mixed_none : (A : List Frame) → mixed_all A [] ≡ A
mixed_none [] = refl
mixed_none (f ∷ A) = refl

-- where the mixing has not come yet, the frames are as they were
pub mixed_ahead : (A F : List Frame) (i : ℕ) (d : Frame) → get_or (mixed_all A (take i F)) i d ≡ get_or A i d
mixed_ahead [] F i d = refl
mixed_ahead (a ∷ A) F zero d = refl
mixed_ahead (a ∷ A) [] (suc i) d = refl
mixed_ahead (a ∷ A) (f ∷ F) (suc i) d = mixed_ahead A F i d

mixed_suc : (A F : List Frame) (i : ℕ) (d e : Frame) → i < length A → i < length F → set (mixed_all A (take i F)) i (mixed (get_or A i d) (get_or F i e)) ≡ mixed_all A (take (suc i) F)
mixed_suc [] F i d e p q = absurd (omega arith)
mixed_suc (a ∷ A) [] i d e p q = absurd (omega arith)
mixed_suc (a ∷ A) (f ∷ F) zero d e p q = ap (λ z. mixed a f ∷ z) (sym (mixed_none A))
mixed_suc (a ∷ A) (f ∷ F) (suc i) d e p q = ap (λ z. mixed a f ∷ z) (mixed_suc A F i d e (omega arith) (omega arith))

pub mixed_more : (A F : List Frame) (i : ℕ) (d e : Frame) → i < length A → i < length F → set (mixed_all A (take i F)) i (mixed (get_or A i d) (get_or F i e)) ≡ mixed_all A (take (i + 1) F)
mixed_more A F i d e p q = rw (add-one i) (mixed_suc A F i d e p q)

pub mixed_reach : (A F : List Frame) (n : ℕ) → min (length A) (length F) ≤ n → mixed_all A (take n F) ≡ mixed_all A F
mixed_reach [] F n h = refl
mixed_reach (a ∷ A) [] zero h = refl
mixed_reach (a ∷ A) [] (suc n) h = refl
mixed_reach (a ∷ A) (f ∷ F) zero h = absurd (omega arith)
mixed_reach (a ∷ A) (f ∷ F) (suc n) h = ap (λ z. mixed a f ∷ z) (mixed_reach A F n (omega arith))

pub mix_joins : (A B C D : List Frame) → length A ≡ length C → mixed_all (A ++ B) (C ++ D) ≡ mixed_all A C ++ mixed_all B D
mix_joins [] B [] D h = refl
mix_joins [] B (c ∷ C) D h = absurd (omega arith)
mix_joins (a ∷ A) B [] D h = absurd (omega arith)
mix_joins (a ∷ A) B (c ∷ C) D h = ap (λ z. mixed a c ∷ z) (mix_joins A B C D (omega arith))
