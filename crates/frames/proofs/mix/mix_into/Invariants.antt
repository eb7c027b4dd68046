use Rattle.std.proofs.Common.{◌≡◌, ◌≤◌, length, take}
use Rattle.frames.specs.Samples.{mixed_all}
use Rattle.frames.proofs.mix.mix_into.Given as goal

abbrev pub invariant-loop-i : goal.invariant-loop-i
invariant-loop-i l = (l.area ≡ mixed_all l.initial.area (take l.i l.frames)) × (l.i ≤ length l.frames)
