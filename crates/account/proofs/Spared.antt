-- Refusals that a call is never answered by. Assumes nothing.
use Rattle.std.proofs.Common.{◌≡◌, ℕ, Bool, true, false, not, eqb, ◌≢◌, List, [], ◌∷◌, refl, ap, inl, inr, arith, Ok, Err}
use Rattle.std.proofs.lemmas.Bool.{and_parts, eqb-false}
use Rattle.codes.specs.declared.refusal.Refusal.{Refusal}
use Rattle.codes.specs.declared.refusal.Refusal.TheVariants as refusal
use Rattle.codes.specs.Refusals.{refusal_number}
use Rattle.calls.specs.Answers.{Answer}
use Rattle.calls.specs.declared.answer.Outcome.TheVariants.{Done}
use Rattle.calls.specs.Answers.{Verdict}
use Rattle.account.specs.Rules.{Reason, ◌⇒◌, Unless}
use Rattle.account.specs.States.{is_refusal, why_of, refusing}
use Rattle.account.proofs.ByTable.{refusing_unless}
use Rattle.account.proofs.Refusals.{cases_if, NoneStands}

pub differ : (x y : Refusal) → eqb (refusal_number x) (refusal_number y) ≡ false → x ≢ y
differ x y apart same = eqb-false (refusal_number x) (refusal_number y) apart (ap refusal_number same)

pub refused_otherwise : (r : Answer) (x y : Refusal) → r ≡ Err x → x ≢ y → r ≢ Err y
refused_otherwise r x y told other answered = other cc

pub done_is_no_refusal : (r : Answer) (why : Refusal) → r ≡ Ok Done → r ≢ Err why
done_is_no_refusal r why told answered = let z : ◌≡◌ {A = ℕ} 0 1 = cc in omega arith

-- none of these reasons, where it is the first that stands, is this one
abbrev pub Spared : Refusal → List Reason → Type 0
Spared why [] = Unit {0}
Spared why (reason ∷ others) = (reason.stands ≡ true → reason.why ≢ why) × (reason.stands ≡ false → Spared why others)

pub spared : {T : Type 0} (reasons : List Reason) (why : Refusal) (r : Answer) (t u : T) {P : Type 0} → Spared why reasons → Unless reasons r t u P → (NoneStands reasons → P → r ≢ Err why) → r ≢ Err why
spared [] why r t u free went obeyed = obeyed tt went
spared (reason ∷ others) why r t u free went obeyed =
    elim (cases_if reason.stands went) [
      | inl stop ↦ refused_otherwise r reason.why why stop.1.0 (free.0 stop.0)
      | inr on ↦ spared others why r t u (free.1 on.0) on.1 (λ none. obeyed (on.0, none))
    ]

-- ---- a call that names a lease

-- where the lease is the one out, its state does not refuse it by 4
abbrev pub MetRightly : Bool → Verdict → Type 0
MetRightly wrong v = wrong ≡ false → is_refusal v ≡ true → why_of v ≢ refusal.State

-- put, mix and copy
pub access_spared : (memory wrong beyond : Bool) (v : Verdict) → MetRightly wrong v → Spared refusal.State (memory ⇒ refusal.Memory ∷ wrong ⇒ refusal.WrongLease ∷ refusing v ∷ beyond ⇒ refusal.Beyond ∷ [])
access_spared memory wrong beyond v rightly =
    (λ _. differ refusal.Memory refusal.State refl, λ _. (λ _. differ refusal.WrongLease refusal.State refl, λ held. (rightly held, λ _. (λ _. differ refusal.Beyond refusal.State refl, λ _. tt))))

-- commit: the reasons that change nothing, and those that end the lease
pub commit_spared : (wrong xrun : Bool) (v : Verdict) → MetRightly wrong v → Spared refusal.State (wrong ⇒ refusal.WrongLease ∷ refusing_unless xrun v ∷ [])
commit_spared wrong xrun v rightly = (λ _. differ refusal.WrongLease refusal.State refl, λ held. (λ e. rightly held (and_parts (is_refusal v) (not xrun) e).0, λ _. tt))

pub ending_spared : (beyond : Bool) (v : Verdict) → (is_refusal v ≡ true → why_of v ≢ refusal.State) → Spared refusal.State (refusing v ∷ beyond ⇒ refusal.Beyond ∷ [])
ending_spared beyond v rightly = (rightly, λ _. (λ _. differ refusal.Beyond refusal.State refl, λ _. tt))

pub limited_spared : (beyond limit : Bool) (v : Verdict) → (is_refusal v ≡ true → why_of v ≢ refusal.State) → Spared refusal.State (refusing v ∷ beyond ⇒ refusal.Beyond ∷ limit ⇒ refusal.Limit ∷ [])
limited_spared beyond limit v rightly = (rightly, λ _. (λ _. differ refusal.Beyond refusal.State refl, λ _. (λ _. differ refusal.Limit refusal.State refl, λ _. tt)))
