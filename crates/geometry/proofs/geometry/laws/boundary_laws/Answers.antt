use Rattle.std.proofs.Common.{rules}
use Rattle.geometry.specs.Boundary.{doubled_while, boundary_for}
use Rattle.geometry.proofs.Doubling.{boundary_rule}
use Rattle.geometry.proofs.geometry.laws.boundary_laws.Goals as goal

pub returns : goal.returns
unfolding doubled_while boundary_for
returns c = search (rules, boundary_rule)
