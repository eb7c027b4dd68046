use Rattle.std.proofs.Common.{rules}
use Rattle.ring.proofs.Holding.{held_places, held_free, held_more}
use Rattle.ring.proofs.ring.laws.span_laws.Goals as goal

pub returns : goal.returns
returns g c = search (rules, held_places, held_free, held_more)
