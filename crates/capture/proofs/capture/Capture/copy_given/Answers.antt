use Rattle.std.proofs.Common.{arith}
use Rattle.capture.specs.CaptureBook.{book_of}
use Rattle.capture.proofs.CopySteps.{copied_as_given}
use Rattle.capture.proofs.capture.Capture.copy_given.Goals as goal

pub returns : goal.returns
returns c =
    let b = book_of c.args.self.now in
    copied_as_given c.args.given b c.args.memory.now c.given_memory-memory.result.now c.args.parts c.args.position c.args.host.now c.copy_part.new.host c.args.x c.args.n c.copy_part.result
    c.buffer.result c.buffer.ensures.answer (omega (arith, c.buffer.ensures.rule.0)) c.given_memory-memory.ensures.given c.copy_part.ensures
