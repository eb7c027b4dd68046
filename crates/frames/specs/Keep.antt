-- Keeping every M-th frame.
--   kept M k fs      the frames that pass: k fall first, then one passes and M - 1 fall, again and again
--   falling M k fs   how many still fall before the next one passes, once fs went by
-- Assumes nothing.
use Rattle.std.specs.Prelude.{ℕ, zero, suc, ◌-◌, List, [], ◌∷◌}

module _ {F : Type 0} (M : ℕ) where
  abbrev pub kept : ℕ → List F → List F
  kept k [] = []
  kept zero (f ∷ fs) = f ∷ kept (M - 1) fs
  kept (suc k) (f ∷ fs) = kept k fs

  abbrev pub falling : ℕ → List F → ℕ
  falling k [] = k
  falling zero (f ∷ fs) = falling (M - 1) fs
  falling (suc k) (f ∷ fs) = falling k fs
