-- Tapes.
--   holds n          how many frames a tape with memory for n frames holds: at most 4,194,304
--   written m p bs   the memory m with bs written over it from place p on
-- Assumes nothing.
use Rattle.std.specs.Prelude.{ℕ, ◌+◌, min, List, [], ◌∷◌, slice_set}

abbrev pub holds : ℕ → ℕ
holds n = min n 4194304

abbrev pub written : List ℕ → ℕ → List ℕ → List ℕ
written m p [] = m
written m p (b ∷ bs) = written (slice_set m p b) (p + 1) bs
