use Rattle.std.proofs.Common.{◌≡◌, ◌≤◌, length, take, drop}
use Rattle.sources.specs.Source.{Gives}
use Rattle.capture.proofs.storing.lose.Given as goal

abbrev pub invariant-loop-count : goal.invariant-loop-count
invariant-loop-count g l =
    (l.count ≤ l.most)
    × (l.count ≤ length (g.R.Source.shows.coming l.initial.source))
    × (g.R.Source.shows.coming l.source ≡ drop l.count (g.R.Source.shows.coming l.initial.source))
    × Gives g.R.Source.shows l.initial.source (take l.count (g.R.Source.shows.coming l.initial.source)) l.source
