use Rattle.std.proofs.Common.{rules}
use Rattle.geometry.proofs.Wrapping.{place_by_pointer, pointer_moves}
use Rattle.geometry.proofs.geometry.laws.pointer_laws.Goals as goal

pub returns : goal.returns
returns c = search (rules, place_by_pointer, pointer_moves)
