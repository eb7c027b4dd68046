-- A capture stream by its numbers.
--   Book           geometry, state, the count that the source gave up, the number of the oldest unread frame, how many frames
--                  are unread, leases, ledger
--   fresh g        the numbers of a stream just set up: SETUP, every count 0
--   room b         how many frames more the ring has room for
-- Assumes nothing.
use Rattle.std.specs.Prelude.{ℕ, ◌-◌, None}
use Rattle.codes.specs.declared.state.State.{State}
use Rattle.codes.specs.declared.state.State.TheVariants.{Setup}
use Rattle.geometry.specs.declared.geometry.Geometry.{Geometry}
use Rattle.calls.specs.declared.lease_parts.Lending.{Lending}
use Rattle.account.specs.Ledgers.{LedgerNumbers}

pub record Book : Type 0 where
  pub geometry : Geometry
  pub state : State
  pub given_up : ℕ
  pub oldest : ℕ
  pub unread : ℕ
  pub lending : Lending
  pub ledger : LedgerNumbers

abbrev pub fresh : Geometry → Book
fresh g =
    record { geometry = g; state = Setup; given_up = 0; oldest = 0; unread = 0; lending = record { granted = 0; out = None }; ledger = record { size = g.ledger; oldest = 0; count = 0 } }

abbrev pub room : Book → ℕ
room b = b.geometry.buffer - b.unread
