use Rattle.std.proofs.Common.{◌≤◌, length, take}
use Rattle.sinks.specs.Sink.{Offers}
use Rattle.sinks.proofs.feed.offer_all.Given as goal

abbrev pub invariant-loop-i : goal.invariant-loop-i
invariant-loop-i g l = (l.i ≤ length l.frames) × Offers g.S.Sink.shows l.initial.sink (take l.i l.frames) l.sink
