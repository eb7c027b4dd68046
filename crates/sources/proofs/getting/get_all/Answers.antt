use Rattle.std.proofs.Common.{take, refl, sym, subst, arith, rules}
use Rattle.std.proofs.lemmas.List.{take-set}
use Rattle.sources.specs.Source.{Gives}
use Rattle.sources.proofs.Chains.{chains_take, fill_more}
use Rattle.sources.proofs.getting.get_all.Goals as goal

pub loop-came-preserved : goal.loop-came-preserved
loop-came-preserved g c =
    let l = c.loop-came in
    let m = l.into in
    fill_more g.S.Source.shows c.args.source.now l.source c.get.new.self m c.args.into.now _ l.came c.in-Some.frame (omega arith) refl l.invariant.0 l.invariant.1 c.in-Some.ensures

pub returns-in_default-clause-elements : goal.returns-in_default-clause-elements
returns-in_default-clause-elements g c =
    let p = g.S.Source.shows in
    let l = c.loop-came in
    rw take-set (chains_take p c.args.source.now c.get.new.self (take l.came l.into) (subst (λ s. Gives p c.args.source.now (take l.came l.into) s) (sym c.in_default.ensures.1) l.invariant.1))

pub returns-clause-elements : goal.returns-clause-elements
returns-clause-elements g c =
    let l = c.loop-came in
    let came = chains_take g.S.Source.shows c.args.source.now l.source (take l.came l.into) l.invariant.1 in search rules
