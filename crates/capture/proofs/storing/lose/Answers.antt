use Rattle.std.proofs.Common.{sym, arith}
use Rattle.capture.proofs.Coming.{gives_more, gives_all}
use Rattle.capture.proofs.storing.lose.Goals as goal

pub loop-count-preserved : goal.loop-count-preserved
loop-count-preserved g c =
    let p = g.R.Source.shows in
    let l = c.loop-count in
    let more = gives_more p c.args.source.now l.source c.get.new.self (p.coming c.args.source.now) l.count _ l.invariant.3 l.invariant.2 c.in-Some.ensures in
    (omega arith, omega (arith, more.0), more.1, more.2)

pub returns-in_default : goal.returns-in_default
returns-in_default g c =
    let p = g.R.Source.shows in
    let l = c.loop-count in
    let all = gives_all p c.args.source.now l.source c.get.new.self (p.coming c.args.source.now) l.count c.args.most l.invariant.3 l.invariant.2 c.in_default.ensures l.invariant.1 l.invariant.0 in
    record { answer = sym all.1; rule = all.3 }
