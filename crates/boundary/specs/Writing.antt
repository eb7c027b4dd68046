-- Bytes written where there is room for them.
--   WritesWhereRoom out at bytes r out'   r says whether the bytes have room from place at on: if so they stand there, and the
--                     rest is as it was; if not, all of it is
--   MovesOn r at at'   the place for what comes next is four bytes on where r says that something was written, or else the same
-- Assumes nothing.
use Rattle.std.specs.Prelude.{◌≡◌, ℕ, ◌+◌, ◌<◌, ◌≤◌, Some, None, Option, List, length}
use Rattle.sinks.specs.Tapes.{written}

abbrev pub WritesWhereRoom : List ℕ → ℕ → List ℕ → Option Unit → List ℕ → Type 0
WritesWhereRoom out at bytes (Some _) out' = (at + length bytes ≤ length out) × (out' ≡ written out at bytes)
WritesWhereRoom out at bytes None out' = (length out < at + length bytes) × (out' ≡ out)

abbrev pub MovesOn : Option Unit → ℕ → ℕ → Type 0
MovesOn (Some _) at at' = at' ≡ at + 4
MovesOn None at at' = at' ≡ at
