-- Entries of a ledger, as takes answer them.
--   entry_list e         the entry that a take answered, if it answered one
--   answered_then es x   the entries answered so far, after a happening
--   further n es         the entries that further takes would answer, one after the other, until none is left
--   of_kinds ks es       those entries that are of one of these kinds, in order
-- Assumes nothing.
use Rattle.std.specs.Prelude.{ℕ, zero, suc, Bool, false, cond, ◌||◌, List, [], ◌∷◌, ◌++◌, Some, None, Option, ◌==◌}
use Rattle.codes.specs.declared.entry_kind.EntryKind.{EntryKind}
use Rattle.codes.specs.EntryKinds.{kind_number}
use Rattle.calls.specs.declared.entry.Entry.{Entry}
use Rattle.account.specs.Ledgers.{LedgerNumbers, with_taken, oldest_of}
use Rattle.account.specs.Happenings.{Happening, granted, committed, given_back, ticked, emptied, taken, copied, nothing}

abbrev pub entry_list : Option Entry → List Entry
entry_list None = []
entry_list (Some e) = e ∷ []

abbrev pub answered_then : List Entry → Happening → List Entry
answered_then es (granted l) = es
answered_then es (committed l n) = es
answered_then es (given_back l) = es
answered_then es (ticked k n) = es
answered_then es emptied = es
answered_then es (taken e) = es ++ entry_list e
answered_then es (copied l j x n) = es
answered_then es nothing = es

-- what n takes, one after the other, would answer
abbrev pub takes_answer : ℕ → LedgerNumbers → List Entry → List Entry
takes_answer zero n es = []
takes_answer (suc k) n es = entry_list (oldest_of n es) ++ takes_answer k (with_taken n) es

abbrev pub further : LedgerNumbers → List Entry → List Entry
further n es = takes_answer n.count n es

abbrev pub is_of : EntryKind → List EntryKind → Bool
is_of k [] = false
is_of k (x ∷ xs) = kind_number k == kind_number x || is_of k xs

abbrev pub of_kinds : List EntryKind → List Entry → List Entry
of_kinds ks [] = []
of_kinds ks (e ∷ es) = cond (is_of e.kind ks) (e ∷ of_kinds ks es) (of_kinds ks es)
