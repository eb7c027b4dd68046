use Rattle.std.proofs.Common.{◌≡◌, ◌+◌, ◌%◌, ◌<◌, ◌≤◌, length, take, drop}
use Rattle.sources.specs.Source.{Gives}
use Rattle.account.specs.Capture.{stored}
use Rattle.capture.proofs.storing.store.Given as goal

abbrev pub invariant-loop-count : goal.invariant-loop-count
invariant-loop-count g l =
    (l.count ≤ l.most)
    × (l.count ≤ length (g.R.Source.shows.coming l.initial.source))
    × (g.R.Source.shows.coming l.source ≡ drop l.count (g.R.Source.shows.coming l.initial.source))
    × Gives g.R.Source.shows l.initial.source (take l.count (g.R.Source.shows.coming l.initial.source)) l.source
    × (l.memory ≡ stored l.span.size l.initial.memory (l.span.oldest + l.span.count) (take l.count (g.R.Source.shows.coming l.initial.source)))
    × (l.place ≡ (l.span.oldest + l.span.count + l.count) % l.span.size)
    × (l.place < l.span.size)
