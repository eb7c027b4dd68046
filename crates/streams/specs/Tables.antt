-- Both streams with all that their calls are given.
--   table_of        as the account speaks of them
--   SameLoans s t   the same streams, sink, source and memories are lent
-- Assumes nothing.
use Rattle.account.specs.Promise as promise
use Rattle.playback.specs.Situations as play
use Rattle.capture.specs.Situations as capt
use Rattle.streams.specs.declared.table.Table.{Table}

abbrev pub table_of : {S R : Type 0} → Table S R → promise.Table S R
table_of t = record { playback = play.situation_of t.playback; capture = capt.situation_of t.capture }

pub record SameLoans {S R : Type 0} (s t : Table S R) : Type 0 where
  pub playback : play.SameLoans s.playback t.playback
  pub capture : capt.SameLoans s.capture t.capture
