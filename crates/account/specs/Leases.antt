-- What becomes of each lease.
--   Fate            a lease was granted, committed (by a commit of 1 or more), given back (by a commit of 0, or one refused by
--                   5, 11 or 13) or voided (by a drop or prepare while it was out)
--   Deed            what happened to one lease
--   deed out x      what a happening did to a lease, where `out` was out before it
--   those f ds      the leases that this happened to
--   copies l ls     how often a lease stands in a list
--   EachEndsOnce  every lease granted was granted once, and was committed, given back or voided once, or is the one out
--   Numbered        the leases granted have the numbers 1, 2, 3, ..
-- Assumes nothing.
use Rattle.std.specs.Prelude.{◌≡◌, ℕ, zero, suc, ◌+◌, ◌<◌, cond, List, [], ◌∷◌, map, length, Some, None, Option, ◌==◌}
use Rattle.calls.specs.declared.lease_parts.LeaseParts.{LeaseParts}
use Rattle.calls.specs.Lending.{same, holds}
use Rattle.account.specs.Happenings.{Happening, granted, committed, given_back, ticked, emptied, taken, copied, nothing}
use Rattle.account.specs.Numbers.{bit}

pub data Fate : Type 0 where
  was_granted : Fate
  was_committed : Fate
  was_given_back : Fate
  was_voided : Fate

pub record Deed : Type 0 where
  pub fate : Fate
  pub lease : LeaseParts

abbrev pub committed_with : ℕ → LeaseParts → List Deed
committed_with n l = record { fate = cond (n == 0) was_given_back was_committed; lease = l } ∷ []

abbrev pub voids : Option LeaseParts → List Deed
voids None = []
voids (Some l) = record { fate = was_voided; lease = l } ∷ []

abbrev pub deed : Option LeaseParts → Happening → List Deed
deed out (granted l) = record { fate = was_granted; lease = l } ∷ []
deed out (committed l n) = committed_with n l
deed out (given_back l) = record { fate = was_given_back; lease = l } ∷ []
deed out (ticked k n) = []
deed out emptied = voids out
deed out (taken e) = []
deed out (copied l j x n) = []
deed out nothing = []

abbrev rank : Fate → ℕ
rank was_granted = 0
rank was_committed = 1
rank was_given_back = 2
rank was_voided = 3

abbrev pub those : Fate → List Deed → List LeaseParts
those f [] = []
those f (d ∷ ds) = cond (rank f == rank d.fate) (d.lease ∷ those f ds) (those f ds)

abbrev pub copies : LeaseParts → List LeaseParts → ℕ
copies l [] = 0
copies l (x ∷ xs) = bit (same x l) + copies l xs

abbrev pub EachEndsOnce : List Deed → Option LeaseParts → Type 0
EachEndsOnce ds out =
    (l : LeaseParts) → 0 < copies l (those was_granted ds)
    → (copies l (those was_granted ds) ≡ 1)
    × (((copies l (those was_committed ds) + copies l (those was_given_back ds)) + copies l (those was_voided ds)) + bit (holds out l) ≡ 1)

-- deeds are listed the newest first, so the numbers fall from the count granted to 1
abbrev pub falling : ℕ → List ℕ
falling zero = []
falling (suc n) = suc n ∷ falling n

abbrev pub Numbered : List Deed → Type 0
Numbered ds = map (λ l. l.number) (those was_granted ds) ≡ falling (length (those was_granted ds))
