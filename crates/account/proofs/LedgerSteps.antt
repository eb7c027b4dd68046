-- The ledger: entries added at the newest end and taken at the oldest. Assumes nothing.
use Rattle.std.proofs.Common.{◌≡◌, ℕ, zero, suc, ◌+◌, ◌-◌, ◌%◌, ◌<◌, ◌≤◌, true, eqb, List, ◌∷◌, ◌++◌, length, get_or, is_some, Some, None, Option, sym, refl, ap, ◌∙◌, mod-lt, arith}
use Rattle.std.proofs.lemmas.List.{length-set, append-nil}
use Rattle.std.proofs.lemmas.Bool.{cond-false, ne_eqb}
use Rattle.codes.specs.declared.entry_kind.EntryKind.TheVariants.{Underrun}
use Rattle.calls.specs.declared.entry.Entry.{Entry}
use Rattle.ring.specs.Held.{held}
use Rattle.ring.proofs.Holding.{held_set, held_oldest}
use Rattle.account.specs.Ledgers.{LedgerNumbers, entries_of, noted, with_noted, with_taken, oldest_of, first_entry}
use Rattle.account.specs.Entries.{entry_list, takes_answer, further}

pub record LedgerKept (n : LedgerNumbers) (es : List Entry) (size : ℕ) : Type 0 where
  pub within : n.oldest < n.size
  pub few : n.count ≤ n.size
  pub long : length es ≡ n.size
  pub sized : n.size ≡ size

-- an entry more, if one is due
pub ledger_noted : {n : LedgerNumbers} {es : List Entry} {size : ℕ} → LedgerKept n es size → (due : Option Entry) → (is_some due ≡ true → n.count < n.size) → LedgerKept (with_noted n due) (noted n es due) size
ledger_noted k None room = k
ledger_noted {n} {es} k (Some e) room =
    record { within = k.within; few = omega (arith, room refl); long = length-set es ((n.oldest + n.count) % n.size) e ∙ k.long; sized = k.sized }

pub entries_noted : {n : LedgerNumbers} {es : List Entry} {size : ℕ} → LedgerKept n es size → (due : Option Entry) → (is_some due ≡ true → n.count < n.size) → entries_of (with_noted n due) (noted n es due) ≡ entries_of n es ++ entry_list due
entries_noted {n} {es} k None room = sym (append-nil (entries_of n es))
entries_noted {n} {es} k (Some e) room = held_set n.size n.oldest n.count es e k.long k.within (room refl)

some_entry : Entry
some_entry = record { kind = Underrun; first = 0; lost = 0; missed = 0; cause = 0; depth = 0 }

taken_is : (s o c : ℕ) → with_taken (record { size = s; oldest = o; count = suc c }) ≡ record { size = s; oldest = (o + 1) % s; count = c }
taken_is s o c =
    let less : suc c - 1 ≡ c = omega arith in
    cond-false (eqb (suc c) 0) _ _ (ne_eqb (suc c) 0 (λ e. omega arith)) ∙ ap (λ x. record { size = s; oldest = (o + 1) % s; count = x }) less

split_taken : (s o c : ℕ) (es : List Entry) → length es ≡ s → o < s → c ≤ s → held o c es ≡ entry_list (first_entry (held o c es)) ++ entries_of (with_taken (record { size = s; oldest = o; count = c })) es
split_taken s o zero es long within few = refl
split_taken s o (suc c) es long within few =
    let less : suc c - 1 ≡ c = omega arith in
    let split : held o (suc c) es ≡ get_or es o some_entry ∷ held ((o + 1) % s) c es = held_oldest s o (suc c) es some_entry long within few (omega arith) ∙ ap (λ x. get_or es o some_entry ∷ held ((o + 1) % s) x es) less in
    rw (taken_is s o c) (split ∙ ap (λ xs. entry_list (first_entry xs) ++ held ((o + 1) % s) c es) (sym split))

kept_taken : (s o c : ℕ) (es : List Entry) (size : ℕ) → LedgerKept (record { size = s; oldest = o; count = c }) es size → LedgerKept (with_taken (record { size = s; oldest = o; count = c })) es size
kept_taken s o zero es size k = k
kept_taken s o (suc c) es size k =
    let sized : 0 < s = omega (arith, k.within) in
    rw (taken_is s o c) (record { within = mod-lt (o + 1) sized; few = omega (arith, k.few); long = k.long; sized = k.sized })

-- the oldest entry and those after it
pub entries_taken : {n : LedgerNumbers} {es : List Entry} {size : ℕ} → LedgerKept n es size → entries_of n es ≡ entry_list (oldest_of n es) ++ entries_of (with_taken n) es
entries_taken {n} {es} k = split_taken n.size n.oldest n.count es k.long k.within k.few

pub ledger_taken : {n : LedgerNumbers} {es : List Entry} {size : ℕ} → LedgerKept n es size → LedgerKept (with_taken n) es size
ledger_taken {n} {es} {size} k = kept_taken n.size n.oldest n.count es size k

takes_are : (s o c : ℕ) {es : List Entry} {size : ℕ} → LedgerKept (record { size = s; oldest = o; count = c }) es size → takes_answer c (record { size = s; oldest = o; count = c }) es ≡ held o c es
takes_are s o zero {es} k = refl
takes_are s o (suc c) {es} {size} k =
    let n : LedgerNumbers = record { size = s; oldest = o; count = suc c } in
    let after : LedgerNumbers = record { size = s; oldest = (o + 1) % s; count = c } in
    let same : with_taken n ≡ after = taken_is s o c in
    let next : LedgerKept after es size = rw same at (ledger_taken k) in
    ap (λ x. entry_list (oldest_of n es) ++ takes_answer c x es) same
    ∙ ap (λ xs. entry_list (oldest_of n es) ++ xs) (takes_are s ((o + 1) % s) c next ∙ ap (λ x. entries_of x es) (sym same))
    ∙ sym (entries_taken k)

-- further takes would answer the entries that the ledger holds
pub further_are : {n : LedgerNumbers} {es : List Entry} {size : ℕ} → LedgerKept n es size → further n es ≡ entries_of n es
further_are {n} k = takes_are n.size n.oldest n.count k
