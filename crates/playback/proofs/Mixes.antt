-- What mixing leaves of a list's length.
use Rattle.std.proofs.Common.{◌≡◌, suc, List, [], ◌∷◌, length, refl, ap}
use Rattle.frames.specs.declared.frame.Frame.{Frame}
use Rattle.frames.specs.Samples.{mixed_all}

pub length_mixed : (A F : List Frame) → length (mixed_all A F) ≡ length A
length_mixed [] F = refl
length_mixed (a ∷ A) [] = refl
length_mixed (a ∷ A) (f ∷ F) = ap suc (length_mixed A F)
