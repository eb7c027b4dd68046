use Rattle.std.proofs.Common.{ℕ, ◌+◌, sym, ap, ◌∙◌, arith, rules}
use Rattle.capture.proofs.Coming.{gives_more, gives_all, stored_again, place_again}
use Rattle.account.specs.Capture.{stored}
use Rattle.capture.proofs.storing.store.Goals as goal

pub loop-count-preserved : goal.loop-count-preserved
loop-count-preserved g c =
    let p = g.R.Source.shows in
    let l = c.loop-count in
    let s = c.args.span.now in
    let coming = p.coming c.args.source.now in
    let first : ℕ = s.oldest + s.count in
    let more = gives_more p c.args.source.now l.source c.get.new.self coming l.count c.in-Some.frame l.invariant.3 l.invariant.2 c.in-Some.ensures in
    let written = stored_again s.size c.args.memory.now l.memory first coming l.count l.place c.in-Some.frame _ _ l.invariant.1 l.invariant.4 l.invariant.5 l.invariant.2 c.in-Some.ensures.0 in
    let again = place_again s.size first l.count l.place l.invariant.5 in
    (omega arith, omega (arith, more.0), more.1, more.2, written, search (rules, again), search rules)

pub returns-in_default : goal.returns-in_default
returns-in_default g c =
    let p = g.R.Source.shows in
    let l = c.loop-count in
    let s = c.args.span.now in
    let all = gives_all p c.args.source.now l.source c.get.new.self (p.coming c.args.source.now) l.count c.args.most l.invariant.3 l.invariant.2 c.in_default.ensures l.invariant.1 l.invariant.0 in
    record { answer = sym all.1; elements = all.2; rule = all.3; memory = l.invariant.4 ∙ ap (stored s.size c.args.memory.now (s.oldest + s.count)) (sym all.0) }
