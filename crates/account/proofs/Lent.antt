-- Each lease ends once: what each deed does to the counts of leases.
use Rattle.std.proofs.Common.{◌≡◌, ℕ, suc, ◌+◌, ◌-◌, ◌%◌, ◌<◌, ◌≤◌, Bool, true, false, eqb, List, [], ◌∷◌, ◌++◌, map, length, is_some, Some, None, Option, refl, ap, ◌∙◌, inl, inr, arith}
use Rattle.std.proofs.lemmas.Bool.{and_parts, eqb-true, cases_Bool}
use Rattle.account.specs.Numbers.{bit}
use Rattle.calls.specs.Lending.{same, holds}
use Rattle.account.specs.Areas.{Inside}
use Rattle.account.specs.Promise.{InArea}
use Rattle.account.specs.Leases.{Deed, was_granted, was_committed, was_given_back, was_voided, those, copies, committed_with, voids, Numbered, EachEndsOnce}
use Rattle.calls.specs.declared.lease_parts.LeaseParts.{LeaseParts}
use Rattle.account.proofs.Stretches.{place_of}

same_parts : (a b c d a' b' c' d' : ℕ) → a ≡ a' → b ≡ b' → c ≡ c' → d ≡ d' → ◌≡◌ {A = LeaseParts} (record { tag = a; number = b; place = c; length = d }) (record { tag = a'; number = b'; place = c'; length = d' })
same_parts a b c d a' b' c' d' p q r s = cc

-- equal in all four parts is equal
pub same_is : (x y : LeaseParts) → same x y ≡ true → x ≡ y
same_is x y e =
    let first = and_parts _ _ e in
    let second = and_parts _ _ first.0 in
    let third = and_parts _ _ second.0 in
    same_parts _ _ _ _ _ _ _ _ (eqb-true _ _ third.0) (eqb-true _ _ third.1) (eqb-true _ _ second.1) (eqb-true _ _ first.1)

pub held_is : (out : Option LeaseParts) (l : LeaseParts) → holds out l ≡ true → out ≡ Some l
held_is None l e = absurd (let z : ◌≡◌ {A = Bool} false true = e in grind arith)
held_is (Some x) l e = ap Some (same_is x l e)

-- no lease is out
pub none_out : (out : Option LeaseParts) → is_some out ≡ false → out ≡ None
none_out None e = refl
none_out (Some l) e = absurd (let z : ◌≡◌ {A = Bool} true false = e in grind arith)

-- how the deeds so far stand to the count of leases granted and the one out
pub record Lent (ds : List Deed) (count : ℕ) (out : Option LeaseParts) : Type 0 where
  pub balance : (l : LeaseParts) → copies l (those was_granted ds) ≡ ((copies l (those was_committed ds) + copies l (those was_given_back ds)) + copies l (those was_voided ds)) + bit (holds out l)
  pub single : (l : LeaseParts) → copies l (those was_granted ds) ≤ 1
  pub unseen : (l : LeaseParts) → count < l.number → copies l (those was_granted ds) ≡ 0
  pub counted : length (those was_granted ds) ≡ count
  pub numbered : Numbered ds

pub lent_none : Lent [] 0 None
lent_none = record { balance = λ l. refl; single = λ l. omega arith; unseen = λ l a. refl; counted = refl; numbered = refl }

pub lent_grant : {ds : List Deed} {count : ℕ} → Lent ds count None → (l : LeaseParts) → l.number ≡ count + 1 → Lent (record { fate = was_granted; lease = l } ∷ ds) (count + 1) (Some l)
lent_grant {ds} lent l number =
    record {
      balance = λ x. omega (arith, lent.balance x);
      single = λ x. elim (cases_Bool (same l x)) [
        | inl e ↦ let at = ap (λ (y : LeaseParts). y.number) (same_is l x e) in let z = lent.unseen x (omega arith) in rw (e, z) (omega arith)
        | inr e ↦ rw e (omega (arith, lent.single x))
      ];
      unseen = λ x a. elim (cases_Bool (same l x)) [
        | inl e ↦ let at = ap (λ (y : LeaseParts). y.number) (same_is l x e) in absurd (omega arith)
        | inr e ↦ rw e (omega (arith, lent.unseen x (omega arith)))
      ];
      counted = omega (arith, lent.counted);
      numbered =
          let next : l.number ≡ suc (length (those was_granted ds)) = omega (arith, lent.counted) in
          ap (λ n. n ∷ map (λ (x : LeaseParts). x.number) (those was_granted ds)) next ∙ ap (λ ns. suc (length (those was_granted ds)) ∷ ns) lent.numbered;
    }

pub lent_back : {ds : List Deed} {count : ℕ} (l : LeaseParts) → Lent ds count (Some l) → Lent (record { fate = was_given_back; lease = l } ∷ ds) count None
lent_back l lent = record { balance = λ x. omega (arith, lent.balance x); single = lent.single; unseen = lent.unseen; counted = lent.counted; numbered = lent.numbered }

pub lent_commit : {ds : List Deed} {count : ℕ} (n : ℕ) (l : LeaseParts) → Lent ds count (Some l) → Lent (committed_with n l ++ ds) count None
lent_commit n l lent =
    elim (cases_Bool (eqb n 0)) [
      | inl e ↦ rw e (lent_back l lent)
      | inr e ↦ rw e (record { balance = λ x. omega (arith, lent.balance x); single = lent.single; unseen = lent.unseen; counted = lent.counted; numbered = lent.numbered })
    ]

pub lent_void : {ds : List Deed} {count : ℕ} (out : Option LeaseParts) → Lent ds count out → Lent (voids out ++ ds) count None
lent_void None lent = lent
lent_void (Some l) lent = record { balance = λ x. omega (arith, lent.balance x); single = lent.single; unseen = lent.unseen; counted = lent.counted; numbered = lent.numbered }

pub lent_once : {ds : List Deed} {count : ℕ} {out : Option LeaseParts} → Lent ds count out → EachEndsOnce ds out
lent_once lent l some = (omega (arith, lent.single l), omega (arith, lent.balance l, lent.single l))

-- the area that is out, if one is, begins at the place of number `first` and has no number past `end`
abbrev pub Area : Option LeaseParts → ℕ → ℕ → ℕ → Type 0
Area None s first end = Unit {0}
Area (Some l) s first end = Inside l s first end

-- so each of its places is that of a number from `first` up to `end`
pub area_places : (out : Option LeaseParts) (s first end x : ℕ) → Area out s first end → InArea x out → (n : ℕ) × (first ≤ n) × (n < end) × (n % s ≡ x)
area_places None s first end x area inside = absurd inside
area_places (Some l) s first end x area inside =
    let at : first % s + (x - l.place) ≡ x = omega arith in
    (first + (x - l.place), omega arith, omega arith, place_of s first (x - l.place) (omega arith) ∙ at)

-- an area stays inside where the end moves on
pub further : (out : Option LeaseParts) (s first end later : ℕ) → Area out s first end → end ≤ later → Area out s first later
further None s first end later area more = tt
further (Some l) s first end later area more = (area.0, omega arith, area.2)
