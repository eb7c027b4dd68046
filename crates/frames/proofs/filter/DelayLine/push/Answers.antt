use Rattle.std.proofs.Common.{inl, inr, arith, w16, SFits, rules}
use Rattle.std.proofs.lemmas.Int.{to_z-of_z}
use Rattle.frames.proofs.Line.{InFront, recent_placed}
use Rattle.frames.proofs.filter.DelayLine.push.Goals.{then-self-eq0, else-self-eq0}
use Rattle.frames.proofs.filter.DelayLine.push.Goals as goal

pub returns-clause-left : goal.returns-clause-left
returns-clause-left c =
    let s = c.args.self.now in
    let at = c.if-self-eq0.at in
    let front : InFront at s.newest = elim c.if-self-eq0.branch [ then-self-eq0 w ↦ inl (w.if-self-eq0.true, w.at-is) | else-self-eq0 w ↦ inr (omega arith) ] in
    let x : SFits w16 c.args.input.left = search rules in
    simp to_z-of_z (recent_placed s.left s.newest at c.args.input.left s.within (omega arith) (search rules) s.twice.0 front)

pub returns-clause-right : goal.returns-clause-right
returns-clause-right c =
    let s = c.args.self.now in
    let at = c.if-self-eq0.at in
    let front : InFront at s.newest = elim c.if-self-eq0.branch [ then-self-eq0 w ↦ inl (w.if-self-eq0.true, w.at-is) | else-self-eq0 w ↦ inr (omega arith) ] in
    let x : SFits w16 c.args.input.right = search rules in
    simp to_z-of_z (recent_placed s.right s.newest at c.args.input.right s.within (omega arith) (search rules) s.twice.1 front)
