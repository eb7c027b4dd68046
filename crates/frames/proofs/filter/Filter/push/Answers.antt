use Rattle.std.proofs.Common.{◌≡◌, length, arith, rules}
use Rattle.frames.specs.Filters.{earlier_left, earlier_right, weights}
use Rattle.frames.proofs.FilterSteps.{one_frame_later}
use Rattle.frames.proofs.filter.Filter.push.Goals as goal

pub returns-clause-rule : goal.returns-clause-rule
returns-clause-rule c =
    let s = c.args.self.now in
    let later : length s.later ≡ 32 = search rules in
    one_frame_later (weights s) (earlier_left s) (earlier_right s) _ _ c.args.input (omega arith) c.push.ensures.left c.push.ensures.right
