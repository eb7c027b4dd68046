use Rattle.std.proofs.Common.{◌≤◌, take}
use Rattle.ring.specs.Spans.{holds}
use Rattle.sinks.specs.Sink.{Offers}
use Rattle.playback.proofs.playing.play.Given as goal

abbrev pub invariant-loop-went : goal.invariant-loop-went
invariant-loop-went g l = (l.went ≤ l.k) × (l.went ≤ l.span.count) × Offers g.S.Sink.shows l.initial.sink (take l.went (holds l.span l.memory)) l.sink
