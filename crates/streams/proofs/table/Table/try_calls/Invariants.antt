use Rattle.std.proofs.Common.{◌≡◌, ◌≤◌, length, take, drop}
use Rattle.calls.specs.Spares.{IsSpared}
use Rattle.calls.specs.Told.{handed}
use Rattle.account.specs.Histories.{Leads, Ran}
use Rattle.account.specs.Promise.{Table, Past, Step}
use Rattle.streams.specs.Tables.{table_of, SameLoans}
use Rattle.streams.proofs.table.Table.try_calls.Given as goal

abbrev pub invariant-loop-count : goal.invariant-loop-count
invariant-loop-count g l =
    (l.count ≤ length l.calls)
    × (drop l.count l.answers ≡ drop l.count l.initial.answers)
    × SameLoans l.initial.self l.self
    × IsSpared l.initial.spare l.spare
    × ((handed l.held.playback ≡ l.self.playback.stream.now.lending.out) × (handed l.held.capture ≡ l.self.capture.stream.now.lending.out))
    × ((start : Table g.row.S.Denot g.row.R.Denot) (past : Past g.row.S.Denot g.row.R.Denot)
    → Leads (Step g.S.Sink.shows g.R.Source.shows) start past (table_of l.initial.self)
    → Ran (Step g.S.Sink.shows g.R.Source.shows) start past (take l.count l.calls) (take l.count l.answers) (table_of l.self))
