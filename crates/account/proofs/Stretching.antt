-- Lost stretches that rise. Assumes nothing.
use Rattle.std.proofs.Common.{◌≡◌, ℕ, ◌+◌, ◌≤◌, true, false, eqb, List, [], ◌∷◌, ◌++◌, refl, ap, inl, inr, arith}
use Rattle.std.proofs.lemmas.Bool.{cases_Bool, eq-eqb}
use Rattle.std.proofs.lemmas.List.{append-nil}
use Rattle.codes.specs.declared.entry_kind.EntryKind.{EntryKind}
use Rattle.codes.specs.declared.entry_kind.EntryKind.TheVariants as kinds
use Rattle.calls.specs.declared.entry.Entry.{Entry}
use Rattle.account.specs.Entries.{is_of, of_kinds}
use Rattle.account.specs.Numbers.{RiseFrom}
use Rattle.account.proofs.Refusals.{cases_if}

pub rise_later : (low : ℕ) (es : List Entry) (top later : ℕ) → top ≤ later → RiseFrom low es top → RiseFrom low es later
rise_later low [] top later more r = omega arith
rise_later low (e ∷ es) top later more r =
    elim (cases_if (eqb e.lost 0) r) [
      | inl none ↦ rw none.0 (rise_later low es top later more none.1)
      | inr some ↦ rw some.0 (some.1.0, rise_later (e.first + e.lost) es top later more some.1.1)
    ]

-- an entry more, that lost nothing or what comes next
pub rise_more : (low : ℕ) (es : List Entry) (top : ℕ) (e : Entry) → RiseFrom low es top → e.first ≡ top → RiseFrom low (es ++ (e ∷ [])) (top + e.lost)
rise_more low [] top e r at =
    elim (cases_Bool (eqb e.lost 0)) [ inl none ↦ rw none (omega arith) | inr some ↦ rw some (omega arith, omega arith) ]
rise_more low (x ∷ es) top e r at =
    elim (cases_if (eqb x.lost 0) r) [
      | inl none ↦ rw none.0 (rise_more low es top e none.1 at)
      | inr some ↦ rw some.0 (some.1.0, rise_more (x.first + x.lost) es top e some.1.1 at)
    ]

pub rise_none : (low : ℕ) (es : List Entry) (top : ℕ) (e : Entry) → RiseFrom low es top → e.lost ≡ 0 → RiseFrom low (es ++ (e ∷ [])) top
rise_none low [] top e r none = rw (eq-eqb e.lost 0 none) r
rise_none low (x ∷ es) top e r none =
    elim (cases_if (eqb x.lost 0) r) [
      | inl zero' ↦ rw zero'.0 (rise_none low es top e zero'.1 none)
      | inr some ↦ rw some.0 (some.1.0, rise_none (x.first + x.lost) es top e some.1.1 none)
    ]

-- ---- the entries of some kinds

of_kinds_append : (ks : List EntryKind) (xs ys : List Entry) → of_kinds ks (xs ++ ys) ≡ of_kinds ks xs ++ of_kinds ks ys
of_kinds_append ks [] ys = refl
of_kinds_append ks (x ∷ xs) ys =
    elim (cases_Bool (is_of x.kind ks)) [ inl of-them ↦ rw of-them (ap (λ es. x ∷ es) (of_kinds_append ks xs ys)) | inr other ↦ rw other (of_kinds_append ks xs ys) ]

module _ (ks : List EntryKind) (es : List Entry) (top : ℕ) (e : Entry) (r : RiseFrom 0 (of_kinds ks es) top) where
  -- an entry more that is of these kinds, and one that is not
  rise_of : is_of e.kind ks ≡ true → top ≤ e.first → RiseFrom 0 (of_kinds ks (es ++ (e ∷ []))) (e.first + e.lost)
  rise_of of-them more = rw (of_kinds_append ks es (e ∷ []), of-them) (rise_more 0 (of_kinds ks es) e.first e (rise_later 0 (of_kinds ks es) top e.first more r) refl)

  rise_not_of : is_of e.kind ks ≡ false → RiseFrom 0 (of_kinds ks (es ++ (e ∷ []))) top
  rise_not_of other = rw (of_kinds_append ks es (e ∷ []), other, append-nil (of_kinds ks es)) r

abbrev pub overruns : List EntryKind
overruns = kinds.Overrun ∷ []

abbrev pub thrown_away : List EntryKind
thrown_away = kinds.Prepared ∷ kinds.Dropped ∷ []

-- entries of this kind are for what was thrown away
abbrev pub Throws : EntryKind → Type 0
Throws k = (is_of k overruns ≡ false) × (is_of k thrown_away ≡ true)

-- a capture stream's overruns rise, and so do the stretches that were thrown away
pub record Rising (es : List Entry) (oldest given_up : ℕ) : Type 0 where
  pub missed : RiseFrom 0 (of_kinds overruns es) given_up
  pub thrown : RiseFrom 0 (of_kinds thrown_away es) oldest

module _ {es : List Entry} {oldest given_up : ℕ} (k : Rising es oldest given_up) where
  pub rising_later : (o g : ℕ) → oldest ≤ o → given_up ≤ g → Rising es o g
  rising_later o g further more = record { missed = rise_later 0 (of_kinds overruns es) given_up g more k.missed; thrown = rise_later 0 (of_kinds thrown_away es) oldest o further k.thrown }

  pub rising_missed : (e : Entry) → is_of e.kind overruns ≡ true → is_of e.kind thrown_away ≡ false → given_up ≤ e.first → Rising (es ++ (e ∷ [])) oldest (e.first + e.lost)
  rising_missed e of-them other more = record { missed = rise_of overruns es given_up e k.missed of-them more; thrown = rise_not_of thrown_away es oldest e k.thrown other }

  pub rising_thrown : (e : Entry) → Throws e.kind → oldest ≤ e.first → Rising (es ++ (e ∷ [])) (e.first + e.lost) given_up
  rising_thrown e throws more = record { missed = rise_not_of overruns es given_up e k.missed throws.0; thrown = rise_of thrown_away es oldest e k.thrown throws.1 more }
