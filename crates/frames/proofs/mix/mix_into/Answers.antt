use Rattle.std.proofs.Common.{◌≡◌, ◌<◌, length, get_or, set, take, sym, ap, ◌∙◌, arith, rules}
use Rattle.std.proofs.lemmas.List.{set-get_or}
use Rattle.frames.specs.Samples.{mixed, mixed_all, silence}
use Rattle.frames.proofs.Mixing.{mixed_ahead, mixed_more, mixed_reach, mixed_none}
use Rattle.frames.proofs.mix.mix_into.Goals as goal

pub loop-i-init : goal.loop-i-init
loop-i-init c = (sym (mixed_none c.args.area.now), omega arith)

pub loop-i-preserved : goal.loop-i-preserved
loop-i-preserved c =
    let A = c.args.area.now in
    let F = c.args.frames.now in
    let i = c.loop-i.i in
    let f = c.in-Some.frame.now in
    let inv = c.loop-i.invariant.0 in
    let inside : i < length F = search rules in
    let same : get_or c.loop-i.area i silence ≡ get_or A i silence = ap (λ z. get_or z i silence) inv ∙ mixed_ahead A F i silence in (
      ap (set c.loop-i.area i) c.mix.ensures
          ∙ ap (λ z. set c.loop-i.area i (mixed z f)) same
          ∙ ap (λ z. set z i (mixed (get_or A i silence) f)) inv
          ∙ ap (λ z. set (mixed_all A (take i F)) i (mixed (get_or A i silence) z)) c.in-Some.ensures.lookup.1
          ∙ mixed_more A F i silence _ c.loop-i-test.true inside,
      omega (arith, inside),
    )

pub returns-in_default : goal.returns-in_default
returns-in_default c =
    let l = c.loop-i in
    set-get_or l.area l.i _ ∙ l.invariant.0 ∙ mixed_reach c.args.area.now c.args.frames.now l.i (search rules)

pub returns : goal.returns
returns c = c.loop-i.invariant.0 ∙ mixed_reach c.args.area.now c.args.frames.now c.loop-i.i (omega (arith, c.loop-i-test.false))
