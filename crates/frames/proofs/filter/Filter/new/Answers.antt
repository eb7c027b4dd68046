use Rattle.std.proofs.Common.{◌≡◌, length, get_or, pos, w16, SFits, rules}
use Rattle.std.proofs.lemmas.Int.{to_z-of_z}
use Rattle.frames.proofs.FilterSteps.{just_made}
use Rattle.frames.proofs.filter.Filter.new.Goals as goal

pub returns : goal.returns
returns c =
    let set = c.args.set in
    let line = c.default.result in
    let long : length set.taps ≡ 32 = search rules in
    let tap : SFits w16 (get_or set.taps 0 (pos 0)) = search rules in
    just_made set.taps set.count _ c.later_taps.result line.left line.right line.newest long set.some (to_z-of_z w16 (get_or set.taps 0 (pos 0)) tap)
    c.later_taps.ensures c.default.ensures.0 c.default.ensures.1 c.default.ensures.2
