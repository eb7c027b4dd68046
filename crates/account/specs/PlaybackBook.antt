-- A playback stream by its numbers.
--   Book            geometry, state, the count committed, the number of the oldest waiting frame, leases, ledger
--   fresh g         the numbers of a stream just set up: SETUP, every count 0
--   waits b         how many frames wait
--   waiting_frames  the frames that wait, the oldest first, as they lie in the frame memory
--   free b          how many places are free: playback avail
-- Assumes nothing.
use Rattle.std.specs.Prelude.{ℕ, ◌-◌, ◌%◌, List, None}
use Rattle.codes.specs.declared.state.State.{State}
use Rattle.codes.specs.declared.state.State.TheVariants.{Setup}
use Rattle.frames.specs.declared.frame.Frame.{Frame}
use Rattle.geometry.specs.declared.geometry.Geometry.{Geometry}
use Rattle.calls.specs.declared.lease_parts.Lending.{Lending}
use Rattle.ring.specs.Held.{held}
use Rattle.account.specs.Ledgers.{LedgerNumbers}

pub record Book : Type 0 where
  pub geometry : Geometry
  pub state : State
  pub committed : ℕ
  pub oldest : ℕ
  pub lending : Lending
  pub ledger : LedgerNumbers

abbrev pub fresh : Geometry → Book
fresh g =
    record { geometry = g; state = Setup; committed = 0; oldest = 0; lending = record { granted = 0; out = None }; ledger = record { size = g.ledger; oldest = 0; count = 0 } }

abbrev pub waits : Book → ℕ
waits b = b.committed - b.oldest

abbrev pub free : Book → ℕ
free b = b.geometry.buffer - waits b

abbrev pub waiting_frames : Book → List Frame → List Frame
waiting_frames b m = held (b.oldest % b.geometry.buffer) (waits b) m
