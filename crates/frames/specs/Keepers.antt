-- How far a keeper has come.
--   passing k fs     the frames that pass, from now on
--   Stepped k k'     the keeper after one frame went by
--   CheckedFactor   what the check of a factor answers
-- Assumes nothing.
use Rattle.std.specs.Prelude.{◌≡◌, ℕ, ◌-◌, ◌≤◌, cond, List, Ok, Err, Result, ◌==◌}
use Rattle.codes.specs.declared.refusal.Refusal.{Refusal}
use Rattle.codes.specs.declared.refusal.Refusal.TheVariants.{Layer}
use Rattle.frames.specs.declared.factor.Factor.{Factor}
use Rattle.frames.specs.declared.factor.Keeper.{Keeper}
use Rattle.frames.specs.declared.frame.Frame.{Frame}
use Rattle.frames.specs.Keep.{kept}

abbrev pub passing : Keeper → List Frame → List Frame
passing k fs = kept k.factor.every k.fall fs

pub record Stepped (k k' : Keeper) : Type 0 where
  pub factor_same : k'.factor ≡ k.factor
  pub falls : k'.fall ≡ cond (k.fall == 0) (k.factor.every - 1) (k.fall - 1)

-- 1 to 8, and the factor is this very number
abbrev pub CheckedFactor : ℕ → Result Factor Refusal → Type 0
CheckedFactor every (Ok f) = ((1 ≤ every) × (every ≤ 8)) × (f.every ≡ every)
CheckedFactor every (Err e) = (e ≡ Layer) × ((1 ≤ every) × (every ≤ 8) → ⊥)
