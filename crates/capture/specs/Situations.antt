-- A capture stream with all that its calls are given.
--   situation_of    as the account speaks of it
--   SameLoans s t   the same stream, source and memories are lent
-- Assumes nothing.
use Rattle.std.specs.Prelude.{◌≡◌}
use Rattle.account.specs.CaptureHistory as history
use Rattle.capture.specs.CaptureBook.{book_of}
use Rattle.capture.specs.declared.situation.Situation.{Situation}

abbrev pub situation_of : {R : Type 0} → Situation R → history.Situation R
situation_of t = record { stream = book_of t.stream.now; source = t.source.now; memory = t.memory.now; ledger = t.ledger.now; host = t.host.now }

pub record SameLoans {R : Type 0} (s t : Situation R) : Type 0 where
  pub stream : t.stream.ghost_name ≡ s.stream.ghost_name
  pub source : t.source.ghost_name ≡ s.source.ghost_name
  pub memory : t.memory.ghost_name ≡ s.memory.ghost_name
  pub ledger : t.ledger.ghost_name ≡ s.ledger.ghost_name
  pub host : t.host.ghost_name ≡ s.host.ghost_name
