use Rattle.std.proofs.Common.{◌≡◌, ◌+◌, List, [], ◌∷◌, ◌++◌, length, get_or, take, pos, sym, refl, ap, ◌∙◌, subst, arith}
use Rattle.std.proofs.lemmas.List.{take_more, take_all}
use Rattle.frames.specs.declared.frame.Frame.{Frame}
use Rattle.sinks.specs.Sink.{Offers}
use Rattle.sinks.proofs.Chains.{offers_push, offers_took}
use Rattle.sinks.proofs.feed.offer_all.Goals as goal

pub returns-in-Err : goal.returns-in-Err
returns-in-Err g c =
    let p = g.S.Sink.shows in
    let law = g.met.S.Sink.lawful in
    let s = c.args.sink.now in
    let t = c.offer.new.self in
    let h = c.in-Err.ensures in
    let fs = take c.loop-i.i c.args.frames.now in
    let chain : Offers p s fs t = subst (λ x. Offers p s fs x) (sym h.same) c.loop-i.invariant.1 in
    record { offered = chain; took = offers_took p law s t fs chain; stopped = (omega arith, ap p.allowance h.same ∙ h.exhausted, h.reason ∙ ap p.stop (sym h.same)) }

pub loop-i-preserved : goal.loop-i-preserved
loop-i-preserved g c =
    let p = g.S.Sink.shows in
    let s = c.args.sink.now in
    let t = c.offer.new.self in
    let fs = c.args.frames.now in
    let i = c.loop-i.i in
    let f : Frame = get_or fs i (record { left = pos 0; right = pos 0 }) in
    let more : take (i + 1) fs ≡ take i fs ++ f ∷ [] = take_more fs i _ c.loop-i-test.true in
    (omega arith, subst (λ (xs : List Frame). Offers p s xs t) (sym more) (offers_push p s c.loop-i.sink t (take i fs) f c.loop-i.invariant.1 c.in_default.ensures))

pub returns : goal.returns
returns g c =
    let p = g.S.Sink.shows in
    let law = g.met.S.Sink.lawful in
    let s = c.args.sink.now in
    let t = c.loop-i.sink in
    let fs = c.args.frames.now in
    let all : take c.loop-i.i fs ≡ take (length fs) fs = take_all c.loop-i.i fs (omega arith) ∙ sym (take_all (length fs) fs (omega arith)) in
    let chain : Offers p s (take (length fs) fs) t = subst (λ (xs : List Frame). Offers p s xs t) all c.loop-i.invariant.1 in
    record { offered = chain; took = offers_took p law s t (take (length fs) fs) chain; stopped = refl }
