-- The ledger: a ring of entries.
--   LedgerNumbers       how many places it has, the place of its oldest entry and how many entries it holds
--   entries_of n es     the entries that it holds, the oldest first, in the ledger memory es
--   is_full n           whether no entry more has room
--   noted n es due      the memory after an entry that is due, if one is, was written at the newest end
--   with_noted n due    the numbers after it
--   with_taken n        the numbers after the oldest entry was taken
--   oldest_of n es      the oldest entry, if there is one
-- Assumes nothing.
use Rattle.std.specs.Prelude.{ℕ, ◌+◌, ◌-◌, ◌%◌, Bool, cond, List, [], ◌∷◌, Some, None, Option, ◌==◌, nat_le, slice_set}
use Rattle.calls.specs.declared.entry.Entry.{Entry}
use Rattle.ring.specs.Held.{held}

pub record LedgerNumbers : Type 0 where
  pub size : ℕ
  pub oldest : ℕ
  pub count : ℕ

abbrev pub entries_of : LedgerNumbers → List Entry → List Entry
entries_of n es = held n.oldest n.count es

abbrev pub is_full : LedgerNumbers → Bool
is_full n = nat_le n.size n.count

abbrev pub noted : LedgerNumbers → List Entry → Option Entry → List Entry
noted n es None = es
noted n es (Some e) = slice_set es ((n.oldest + n.count) % n.size) e

abbrev pub with_noted : LedgerNumbers → Option Entry → LedgerNumbers
with_noted n None = n
with_noted n (Some e) = record { size = n.size; oldest = n.oldest; count = n.count + 1 }

abbrev pub with_taken : LedgerNumbers → LedgerNumbers
with_taken n = cond (n.count == 0) n (record { size = n.size; oldest = (n.oldest + 1) % n.size; count = n.count - 1 })

abbrev pub first_entry : List Entry → Option Entry
first_entry [] = None
first_entry (e ∷ es) = Some e

abbrev pub oldest_of : LedgerNumbers → List Entry → Option Entry
oldest_of n es = first_entry (entries_of n es)
