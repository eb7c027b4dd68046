use Rattle.sinks.proofs.Chains.{took_heal}
use Rattle.desk.proofs.Fed.{fed_on}
use Rattle.desk.proofs.playing.play.Goals as goal

pub loop-preserved : goal.loop-preserved
loop-preserved g c =
    let p = g.S.Sink.shows in
    let law = g.met.S.Sink.lawful in
    let all = fed_on p law c.args.sink.now c.loop.sink c.offer_all-fed.new.sink c.loop.played c.args.frames.now c.offer_all-fed.result c.loop.invariant.0 c.loop.invariant.1 c.offer_all-fed.ensures in
    (all.0, took_heal p law c.args.sink.now c.offer_all-fed.new.sink c.heal.new.self _ all.1 c.heal.ensures)

pub returns-in_default : goal.returns-in_default
returns-in_default g c =
    fed_on g.S.Sink.shows g.met.S.Sink.lawful c.args.sink.now c.loop.sink c.offer_all-fed.new.sink c.loop.played c.args.frames.now c.offer_all-fed.result c.loop.invariant.0 c.loop.invariant.1 c.offer_all-fed.ensures

pub returns-then-not-went_on : goal.returns-then-not-went_on
returns-then-not-went_on g c =
    let p = g.S.Sink.shows in
    let law = g.met.S.Sink.lawful in
    let all = fed_on p law c.args.sink.now c.loop.sink c.offer_all-fed.new.sink c.loop.played c.args.frames.now c.offer_all-fed.result c.loop.invariant.0 c.loop.invariant.1 c.offer_all-fed.ensures in
    (all.0, took_heal p law c.args.sink.now c.offer_all-fed.new.sink c.heal.new.self _ all.1 c.heal.ensures)
