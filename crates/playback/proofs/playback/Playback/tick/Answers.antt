use Rattle.std.proofs.Common.{Ok, sym, ap, ◌∙◌, arith}
use Rattle.playback.specs.PlaybackBook.{book_of}
use Rattle.playback.proofs.Ticks.{played, ticks_played}
use Rattle.playback.proofs.playback.Playback.tick.Goals as goal

pub returns : goal.returns
returns g c =
    let s = c.args.self.now in
    let whole = c.in_ok-check_length.ensures.fits ∙ c.buffer.ensures.answer in
    let done = played g.S.Sink.shows s c.args.memory.now c.args.ledger.now c.advance.new.ledger c.args.sink.now c.play-gone.new.sink c.args.k c.play-gone.result c.after_tick.result c.periods.result c.tick_entry-due.result _
    (omega (arith, whole)) c.play-gone.ensures c.after_tick.ensures c.periods.ensures c.tick_entry-due.ensures c.advance.ensures.state c.advance.ensures.memory in
    ticks_played g.S.Sink.shows (book_of s) c.args.sink.now c.args.memory.now c.args.ledger.now c.args.k _ _ c.play-gone.new.sink c.advance.new.ledger
    whole (c.in_ok-check_length-2.ensures.fits ∙ c.ledger.ensures.answer) (sym c.decide.ensures ∙ c.in_ok-decide.was ∙ ap Ok c.in-Move.is) c.in_ok-check_room.ensures.room done
