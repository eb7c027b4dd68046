use Rattle.std.proofs.Common.{arith}
use Rattle.capture.proofs.Moved.{ring_freed, none_out}
use Rattle.capture.proofs.capture.Capture.read.Goals as goal

pub invariant_of-self : goal.invariant_of-self
invariant_of-self c =
    let s = c.args.self.now in
    let ring = ring_freed c.free.result s.frames c.free.new.self s.geometry.buffer s.oldest s.unread c.args.n s.ring c.requires.unread c.free.ensures.answer in
    record { widths = s.widths; ordered = (omega arith, omega arith); ring = ring; entries = s.entries; area = none_out _ s.lending.out c.requires.lease }
