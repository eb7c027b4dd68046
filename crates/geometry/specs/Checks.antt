-- Has: a geometry has given numbers, and the boundary of its buffer.
-- Checked: what the check of a stream's numbers answers.
-- Assumes nothing.
use Rattle.std.specs.Prelude.{◌≡◌, ℕ, Ok, Err, Result}
use Rattle.codes.specs.declared.refusal.Refusal.{Refusal}
use Rattle.codes.specs.declared.refusal.Refusal.TheVariants as refusals
use Rattle.geometry.specs.declared.geometry.Geometry.{Geometry}
use Rattle.geometry.specs.Boundary.{boundary_for}
use Rattle.geometry.specs.Rules.{Lawful}

-- g has these very numbers
pub record Has (g : Geometry) (buffer period threshold ledger tag : ℕ) : Type 0 where
  pub buffer_is : g.buffer ≡ buffer
  pub period_is : g.period ≡ period
  pub threshold_is : g.threshold ≡ threshold
  pub ledger_is : g.ledger ≡ ledger
  pub tag_is : g.tag ≡ tag
  pub boundary_is : g.boundary ≡ boundary_for buffer

-- lawful numbers give a geometry with these very numbers, and no others do
abbrev pub Checked : ℕ → ℕ → ℕ → ℕ → ℕ → Result Geometry Refusal → Type 0
Checked buffer period threshold ledger tag (Ok g) = Lawful buffer period threshold ledger × Has g buffer period threshold ledger tag
Checked buffer period threshold ledger tag (Err e) = (e ≡ refusals.Geometry) × (Lawful buffer period threshold ledger → ⊥)
