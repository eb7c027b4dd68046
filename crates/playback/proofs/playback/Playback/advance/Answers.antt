use Rattle.std.proofs.Common.{◌∙◌, arith}
use Rattle.ring.proofs.Moving.{freed}
use Rattle.playback.proofs.Rings.{place_on}
use Rattle.playback.proofs.playback.Playback.advance.Goals as goal

pub invariant_of-self : goal.invariant_of-self
invariant_of-self c =
    let s = c.args.self.now in
    let n = c.args.went in
    let has = freed c.free.result s.frames n c.free.new.self (omega (arith, c.requires.there, s.ring.2)) c.free.ensures.answer in
    let on = place_on s.frames.size s.frames.oldest s.geometry.buffer s.oldest n s.ring.0 s.ring.1 in
    record { widths = (omega arith, omega arith, omega arith); ordered = (omega arith, omega arith); ring = (has.0 ∙ s.ring.0, has.1 ∙ on, omega (arith, has.2, s.ring.2)); entries = c.note.ensures.same ∙ s.entries; area = λ l e. let i = s.area l e in (i.0, omega (arith, i.1), i.2) }
