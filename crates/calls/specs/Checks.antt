-- What the checks of calls answer, and a lease granted.
--   refused_if stands why   refused by `why` where `stands` holds
--   Grants b l out new      l is the next lease on its area and out now; where the number of leases is used up, refused by 13
--   loss_of kind first lost   the entry for frames that are thrown away, if there are any
--   IsGiven given own size m   m is the stream's own memory, of so many places, or has another length
-- Assumes nothing.
use Rattle.std.specs.Prelude.{◌≡◌, ℕ, ◌+◌, ◌<◌, ◌≤◌, Bool, true, false, cond, Some, None, Option, Ok, Err, Result, ◌==◌, ◌≢◌, List, length}
use Rattle.codes.specs.declared.entry_kind.EntryKind.{EntryKind}
use Rattle.codes.specs.declared.refusal.Refusal.{Refusal}
use Rattle.codes.specs.declared.refusal.Refusal.TheVariants as refusal
use Rattle.calls.specs.declared.call.Given.{Given}
use Rattle.calls.specs.declared.call.Given.TheVariants.{Own, Another}
use Rattle.calls.specs.declared.entry.Entry.{Entry}
use Rattle.calls.specs.declared.lease_parts.LeaseParts.{LeaseParts}
use Rattle.calls.specs.declared.lease_parts.Lending.{Lending}

abbrev pub refused_if : Bool → Refusal → Result Unit Refusal
refused_if true why = Err why
refused_if false why = Ok tt

abbrev pub granted_on : Lending → ℕ → ℕ → ℕ → LeaseParts
granted_on b tag place length = record { tag = tag; number = b.granted + 1; place = place; length = length }

abbrev pub Grants : Lending → ℕ → ℕ → ℕ → Result LeaseParts Refusal → Lending → Type 0
Grants b tag place length (Ok l) c = (b.granted < 4294967295) × (l ≡ granted_on b tag place length) × (c ≡ record { granted = b.granted + 1; out = Some l })
Grants b tag place length (Err why) c = (4294967295 ≤ b.granted) × (why ≡ refusal.Limit) × (c ≡ b)

abbrev pub loss_of : EntryKind → ℕ → ℕ → Option Entry
loss_of kind first lost = cond (lost == 0) None (Some (record { kind = kind; first = first; lost = lost; missed = 0; cause = 0; depth = 0 }))

abbrev pub IsGiven : {T : Type 0} → Given → List T → ℕ → List T → Type 0
IsGiven Own own size m = m ≡ own
IsGiven Another own size m = 0 < size → length m ≢ size
