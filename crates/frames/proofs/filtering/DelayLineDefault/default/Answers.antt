use Rattle.std.proofs.Common.{arith}
use Rattle.frames.proofs.Line.{silent_mirrored}
use Rattle.frames.proofs.filtering.DelayLineDefault.default.Goals as goal

pub invariant_of-result : goal.invariant_of-result
invariant_of-result c = record { within = omega arith; twice = (silent_mirrored, silent_mirrored) }
