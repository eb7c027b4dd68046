use Rattle.std.proofs.Common.{rules}
use Rattle.playback.proofs.Plays.{offers_more, plays_all, plays_asked, plays_stopped}
use Rattle.playback.proofs.playing.play.Goals as goal

pub returns-in_default : goal.returns-in_default
returns-in_default g c =
    plays_all g.S.Sink.shows c.args.sink.now c.loop-went.sink c.args.span.now c.args.memory.now c.args.k c.loop-went.went
    c.requires c.loop-went.invariant.0 c.loop-went.invariant.1 c.in_default.ensures c.loop-went.invariant.2

pub returns-in-Err : goal.returns-in-Err
returns-in-Err g c =
    plays_stopped g.S.Sink.shows c.args.sink.now c.loop-went.sink c.offer.new.self c.args.span.now c.args.memory.now c.args.k c.loop-went.went
    c.in-Some.frame c.in-Err.stop c.requires c.loop-went-test.true c.in-Some.ensures c.loop-went.invariant.2 c.in-Err.ensures

pub loop-went-preserved : goal.loop-went-preserved
loop-went-preserved g c = search (rules, offers_more)

pub returns : goal.returns
returns g c = search (rules, plays_asked)
