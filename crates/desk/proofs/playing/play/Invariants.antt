use Rattle.std.proofs.Common.{◌≤◌, length, take}
use Rattle.sinks.specs.Sink.{Took}
use Rattle.desk.proofs.playing.play.Given as goal

abbrev pub invariant-loop : goal.invariant-loop
invariant-loop g l = (l.played ≤ length l.frames) × Took g.S.Sink.shows l.initial.sink (take l.played l.frames) l.sink
