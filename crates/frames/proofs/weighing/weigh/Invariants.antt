use Rattle.std.proofs.Common.{◌≡◌, ◌*◌, ◌^◌, ◌≤◌, length, take, unsigned_abs}
use Rattle.frames.specs.Filter.{weighted}
use Rattle.frames.proofs.weighing.weigh.Given as goal

abbrev pub invariant-loop-tap : goal.invariant-loop-tap
invariant-loop-tap l =
    (goal.iterator-loop-tap).can_next l.tap-iterator
    × (goal.iterator-loop-tap).is_finite l.tap-iterator
    × (l.sum ≡ weighted (take (length l.yielded) l.taps) l.samples)
    × (unsigned_abs l.sum ≤ length l.yielded * 2 ^ 30)
