use Rattle.capture.specs.CaptureBook.{book_of}
use Rattle.ledger.specs.LedgerSpans.{numbers_of, FitsIn}
use Rattle.ledger.proofs.Ledger.{room_any}
use Rattle.capture.proofs.Captures.{captured}
use Rattle.capture.proofs.capture.Capture.capture.Goals as goal

pub returns : goal.returns
returns g c =
    let s = c.args.self.now in
    let came = c.take_in-came in
    let fits : FitsIn s.ledger c.args.ledger.now c.overrun-due.result = (c.requires.ledger, room_any s.ledger c.overrun-due.result c.requires.room) in
    captured g.R.Source.shows (book_of s) c.args.source.now came.new.source c.args.memory.now came.new.memory c.args.ledger.now c.note.new.ledger c.args.k came.result.kept came.result.lost s.frames c.after_tick.result c.periods.result c.overrun-due.result (numbers_of c.note.new.span) s.ring came.ensures.kept came.ensures.lost came.ensures.rule came.ensures.memory c.after_tick.ensures c.periods.ensures c.overrun-due.ensures (c.note.ensures.numbers fits) (c.note.ensures.memory fits)
