-- Spare memory, as calls leave it.
--   IsSpared s t    the memories are the same, and hold what they held
-- Assumes nothing.
use Rattle.std.specs.Prelude.{◌≡◌}
use Rattle.calls.specs.declared.elsewhere.Spare.{Spare}

pub record IsSpared (s t : Spare) : Type 0 where
  pub frames : t.frames.now ≡ s.frames.now
  pub ledger : t.ledger.now ≡ s.ledger.now
  pub same_frames : t.frames.ghost_name ≡ s.frames.ghost_name
  pub same_ledger : t.ledger.ghost_name ≡ s.ledger.ghost_name
