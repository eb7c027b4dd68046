use Rattle.std.proofs.Common.{◌+◌, ◌*◌, ◌≤◌, length, take, refl, ap, ◌∙◌, arith, w16, SFits, rules}
use Rattle.frames.specs.Layout.{bytes_of, frames_of}
use Rattle.sinks.proofs.TapeBytes.{copied, one_frame_more}
use Rattle.sinks.proofs.byte_tape.VecU8Memory.write.Goals as goal

pub returns-clause-writes : goal.returns-clause-writes
returns-clause-writes c =
    let s = c.args.self.now in
    copied s.items c.deref_mut.result.now c.copy_from_slice.new.self (bytes_of c.args.frame) s.len (4 * c.args.at) c.deref_mut.ensures.value
    (c.copy_from_slice.ensures.after ∙ c.from-bytes.ensures) s.ok.0 refl (omega (arith, s.ok.0))

pub returns-clause-one_more : goal.returns-clause-one_more
returns-clause-one_more c =
    let s = c.args.self.now in
    let f = c.args.frame in
    let fl : SFits w16 f.left = search rules in
    let fr : SFits w16 f.right = search rules in
    let h : 4 * c.args.at + 4 ≤ length s.items = omega (arith, s.ok.0) in
    ap (λ z. frames_of (take (4 * (c.args.at + 1)) z)) (returns-clause-writes c) ∙ one_frame_more s.items c.args.at f fl fr h
