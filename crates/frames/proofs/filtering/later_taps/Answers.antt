use Rattle.std.proofs.Common.{◌-◌, ◌++◌, take, drop, replicate, pos, ap, ◌∙◌}
use Rattle.std.proofs.lemmas.List.{drop-replicate}
use Rattle.frames.proofs.filtering.later_taps.Goals as goal

pub returns : goal.returns
returns c =
    let n = c.args.set.now.count - 1 in
    ap (λ z. z ++ drop n (replicate 32 (pos 0))) c.copy_from_slice.ensures.after
    ∙ ap (λ z. take n (drop 1 c.args.set.now.taps) ++ z) (drop-replicate n 32 (pos 0))
