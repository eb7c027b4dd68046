use Rattle.std.proofs.Common.{◌≡◌, take, drop}
use Rattle.sources.specs.Source.{Gives}
use Rattle.sources.proofs.getting.get_all.Given as goal

abbrev pub invariant-loop-came : goal.invariant-loop-came
invariant-loop-came g l =
    (drop l.came l.into ≡ drop l.came l.initial.into) × Gives g.S.Source.shows l.initial.source (take l.came l.into) l.source
