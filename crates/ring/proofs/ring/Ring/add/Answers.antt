use Rattle.std.proofs.Common.{rules}
use Rattle.ring.proofs.Holding.{held_set}
use Rattle.ring.proofs.ring.Ring.add.Goals as goal

pub returns : goal.returns
returns g c = search (rules, held_set)
