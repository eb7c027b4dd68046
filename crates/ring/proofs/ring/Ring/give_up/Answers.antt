use Rattle.std.proofs.Common.{arith, rules}
use Rattle.ring.proofs.Moving.{given_up}
use Rattle.ring.proofs.ring.Ring.give_up.Goals as goal

pub returns-clause-answer : goal.returns-clause-answer
returns-clause-answer g c =
    let s = c.args.self.now in
    let u = given_up c.free.result s.span _ c.free.new.self s.memory.now c.in_ok-x.x c.in_ok-x.ensures c.free.ensures.answer (omega arith) in
    search (rules, u)
