-- Areas of a ring, and leases on them.
--   area m place n       the first n frames of the area that begins at a place
--   Inside l s n end     the lease's area begins at the place of frame number n in a ring of s places, has no frame past
--                        `end`, and lies before the ring's end
--   lease_on tag b ..    the next lease, on an area
--   with_out, with_none  what is known of the leases once one is out, and once none is
-- Assumes nothing.
use Rattle.std.specs.Prelude.{◌≡◌, ℕ, ◌+◌, ◌%◌, ◌≤◌, List, take, drop, Some, None}
use Rattle.calls.specs.declared.lease_parts.LeaseParts.{LeaseParts}
use Rattle.calls.specs.declared.lease_parts.Lending.{Lending}

abbrev pub area : {F : Type 0} → List F → ℕ → ℕ → List F
area m place n = take n (drop place m)

abbrev pub Inside : LeaseParts → ℕ → ℕ → ℕ → Type 0
Inside l s n end = (l.place ≡ n % s) × (n + l.length ≤ end) × (l.place + l.length ≤ s)

abbrev pub lease_on : ℕ → Lending → ℕ → ℕ → LeaseParts
lease_on tag b place length = record { tag = tag; number = b.granted + 1; place = place; length = length }

abbrev pub with_out : Lending → LeaseParts → Lending
with_out b l = record { granted = b.granted + 1; out = Some l }

abbrev pub with_none : Lending → Lending
with_none b = record { granted = b.granted; out = None }
