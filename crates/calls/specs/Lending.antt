-- Leases by their four parts.
--   same x y      two leases agree in all four parts
--   holds out l   this very lease is out
-- Assumes nothing.
use Rattle.std.specs.Prelude.{Bool, false, ◌&&◌, Some, None, Option, ◌==◌}
use Rattle.calls.specs.declared.lease_parts.LeaseParts.{LeaseParts}

abbrev pub same : LeaseParts → LeaseParts → Bool
same x y = x.tag == y.tag && x.number == y.number && x.place == y.place && x.length == y.length

abbrev pub holds : Option LeaseParts → LeaseParts → Bool
holds None l = false
holds (Some out) l = same out l
