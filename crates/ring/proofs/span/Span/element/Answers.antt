use Rattle.std.proofs.Common.{rules}
use Rattle.ring.proofs.Holding.{held_at}
use Rattle.ring.proofs.span.Span.element.Goals as goal

pub returns : goal.returns
returns g c = search (rules, held_at)
