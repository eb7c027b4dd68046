-- A playback stream with all that its calls are given.
--   situation_of   as the account speaks of it
--   SameLoans s t   the same stream, sink and memories are lent
-- Assumes nothing.
use Rattle.std.specs.Prelude.{◌≡◌}
use Rattle.account.specs.PlaybackHistory as history
use Rattle.playback.specs.PlaybackBook.{book_of}
use Rattle.playback.specs.declared.situation.Situation.{Situation}

abbrev pub situation_of : {S : Type 0} → Situation S → history.Situation S
situation_of t = record { stream = book_of t.stream.now; sink = t.sink.now; memory = t.memory.now; ledger = t.ledger.now }

pub record SameLoans {S : Type 0} (s t : Situation S) : Type 0 where
  pub stream : t.stream.ghost_name ≡ s.stream.ghost_name
  pub sink : t.sink.ghost_name ≡ s.sink.ghost_name
  pub memory : t.memory.ghost_name ≡ s.memory.ghost_name
  pub ledger : t.ledger.ghost_name ≡ s.ledger.ghost_name
