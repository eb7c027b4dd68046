-- Steps taken one by one. Assumes nothing.
use Rattle.std.proofs.Common.{◌≡◌, ℕ, zero, suc, ◌+◌, ◌∷◌, map, ℤ, pos, ◌+ℤ◌, ◌*ℤ◌, sym, refl, ap, ◌∙◌, zero-add, add-one, w16, SFits}
use lib.IntN.{+ℤ_assoc, +ℤ_comm, +ℤ_idr, suc_ℤ-*ℤ, zero-*ℤ}
use Rattle.std.specs.List.{range_with_len}
use Rattle.std.specs.Int.{int_wrap}
use Rattle.std.proofs.lemmas.List.FromFn.{length-map-range_with_len, get_or-map-range_with_len}
use Rattle.std.proofs.lemmas.Int.{int_wrap_fits, int_wrap-add_left}
use Rattle.frames.specs.declared.frame.Frame.{Frame}
use Rattle.sources.specs.Stepping.{step_frame, steps, Stepped}

abbrev both : ℤ → Frame
both x = record { left = x; right = x }

-- v plus d, and i times d more
onward : (v d : ℤ) (i : ℕ) → v +ℤ pos (i + 1) *ℤ d ≡ (v +ℤ d) +ℤ pos i *ℤ d
onward v d i =
    ap (λ k. v +ℤ pos k *ℤ d) (add-one i)
    ∙ ap (λ z. v +ℤ z) (suc_ℤ-*ℤ (pos i) d ∙ +ℤ_comm (pos i *ℤ d) d)
    ∙ sym (+ℤ_assoc v d (pos i *ℤ d))

next_step : (v d : ℤ) (i : ℕ) → step_frame v d (i + 1) ≡ step_frame (int_wrap w16 (v +ℤ d)) d i
next_step v d i = ap both (ap (int_wrap w16) (onward v d i) ∙ sym (int_wrap-add_left w16 (v +ℤ d) (pos i *ℤ d)))

later : (v d : ℤ) (a n : ℕ) → map (step_frame v d) (range_with_len (a + 1) n) ≡ map (step_frame (int_wrap w16 (v +ℤ d)) d) (range_with_len a n)
later v d a zero = refl
later v d a (suc n) = ap (λ f. f ∷ map (step_frame v d) (range_with_len (a + 1 + 1) n)) (next_step v d a) ∙ ap (λ fs. step_frame (int_wrap w16 (v +ℤ d)) d a ∷ fs) (later v d (a + 1) n)

-- the first step is v itself, and the others go on from v plus d
steps_more : (v d : ℤ) (n : ℕ) → SFits w16 v → steps v d (n + 1) ≡ both v ∷ steps (int_wrap w16 (v +ℤ d)) d n
steps_more v d n fits =
    ap (steps v d) (add-one n)
    ∙ ap (λ z. both (int_wrap w16 z) ∷ map (step_frame v d) (range_with_len 1 n)) (ap (λ z. v +ℤ z) (zero-*ℤ d) ∙ +ℤ_idr v)
    ∙ ap (λ z. both z ∷ map (step_frame v d) (range_with_len 1 n)) (int_wrap_fits w16 v fits)
    ∙ ap (λ fs. both v ∷ fs) (later v d 0 n)

-- the same over the numbers before and after a step
pub stepped : (v d : ℤ) (n : ℕ) (v' d' : ℤ) (n' : ℕ) → SFits w16 v → (n' + 1 ≡ n) × (v' ≡ int_wrap w16 (v +ℤ d)) × (d' ≡ d) → steps v d n ≡ record { left = v; right = v } ∷ steps v' d' n'
stepped v d n v' d' n' fits e =
    ap (steps v d) (sym e.0)
    ∙ steps_more v d n' fits
    ∙ ap (λ z. both v ∷ steps z d n') (sym e.1)
    ∙ ap (λ z. both v ∷ steps v' z n') (sym e.2)

pub steps_stand : (v d : ℤ) (n : ℕ) → Stepped v d n (steps v d n)
steps_stand v d n = (length-map-range_with_len (step_frame v d) 0 n, λ i z h. get_or-map-range_with_len (step_frame v d) 0 n i i z h (zero-add i))
