-- The numbers of a ledger's span, and its memory.
--   numbers_of s       its numbers
--   Whole s es        the memory is as long as the ledger
--   Room s due        where an entry is due, there is room for it
--   FitsIn s es due  both
-- Assumes nothing.
use Rattle.std.specs.Prelude.{◌≡◌, ◌<◌, List, length, Some, None, Option}
use Rattle.calls.specs.declared.entry.Entry.{Entry}
use Rattle.ring.specs.declared.span.Span.{Span}
use Rattle.account.specs.Ledgers.{LedgerNumbers}

abbrev pub numbers_of : Span → LedgerNumbers
numbers_of s = record { size = s.size; oldest = s.oldest; count = s.count }

abbrev pub Whole : Span → List Entry → Type 0
Whole s es = length es ≡ s.size

abbrev pub Room : Span → Option Entry → Type 0
Room s None = Unit {0}
Room s (Some e) = s.count < s.size

abbrev pub FitsIn : Span → List Entry → Option Entry → Type 0
FitsIn s es due = Whole s es × Room s due
