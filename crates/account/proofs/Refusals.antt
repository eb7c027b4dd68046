-- Which way a call went: refused by the first reason that stood, or obeyed.
use Rattle.std.proofs.Common.{◌≡◌, ℕ, Bool, true, false, cond, ◌⊎◌, List, [], ◌∷◌, ◌++◌, take, drop, Some, None, Option, refl, ap, ◌∙◌, inl, inr, arith, Err}
use Rattle.std.proofs.lemmas.List.{take-append-drop}
use Rattle.codes.specs.declared.refusal.Refusal.{Refusal}
use Rattle.calls.specs.Answers.{Answer}
use Rattle.account.specs.Rules.{Refuses, Reason, If, Unless, first_of}

pub cases_if : (b : Bool) {A B : Type 0} → If b A B → ((b ≡ true) × A) ⊎ ((b ≡ false) × B)
cases_if true x = inl (refl, x)
cases_if false x = inr (refl, x)

abbrev pub NoneStands : List Reason → Type 0
NoneStands [] = Unit {0}
NoneStands (why ∷ others) = (why.stands ≡ false) × NoneStands others

pub refused_or_obeyed : {T : Type 0} (reasons : List Reason) {r : Answer} {t u : T} {P : Type 0} → Unless reasons r t u P → ((why : Refusal) × Refuses why r t u) ⊎ (NoneStands reasons × P)
refused_or_obeyed [] done = inr (tt, done)
refused_or_obeyed (why ∷ others) went =
    elim (cases_if why.stands went) [
      | inl stop ↦ inl (why.why, stop.1)
      | inr on ↦ elim (refused_or_obeyed others on.1) [ inl stop ↦ inl stop | inr yes' ↦ inr ((on.0, yes'.0), yes'.1) ]
    ]

-- what a refused call kept and an obeyed one brought about holds either way
pub holds_after : {T : Type 0} (Q : T → Type 0) (reasons : List Reason) (r : Answer) {t u : T} {P : Type 0} → Unless reasons r t u P → Q t → (NoneStands reasons → P → Q u) → Q u
holds_after Q reasons r went before obeyed = elim (refused_or_obeyed reasons went) [ inl stop ↦ rw stop.1.1 before | inr go ↦ obeyed go.0 go.1 ]

pub put_back : {X : Type 0} (xs part : List X) (n : ℕ) → part ≡ take n xs → part ++ drop n xs ≡ xs
put_back xs part n same = ap (λ x. x ++ drop n xs) same ∙ take-append-drop n xs

-- a call is refused by the first reason that stands
never : {A : Type 0} (o : Option A) (x : A) → o ≡ None → o ≡ Some x → ⊥
never o x p q = let z : ◌≡◌ {A = ℕ} 0 1 = cc in omega arith

only : (x y : Refusal) → Some x ≡ Some y → y ≡ x
only x y p = cc

refused_step : {T : Type 0} (b : Bool) (first why : Refusal) (o : Option Refusal) (r : Answer) (left u : T) (P : Type 0)
    → cond b (Some first) o ≡ Some why → r ≡ Err why → u ≡ left → (o ≡ Some why → P) → If b (Refuses first r left u) P
refused_step true first why o r left u P e a s k = (a ∙ ap Err (only first why e), s)
refused_step false first why o r left u P e a s k = k e

pub refused_by : {T : Type 0} (reasons : List Reason) (why : Refusal) (r : Answer) (left u : T) (P : Type 0)
    → first_of reasons ≡ Some why → r ≡ Err why → u ≡ left → Unless reasons r left u P
refused_by [] why r left u P e a s = absurd (never None why refl e)
refused_by (reason ∷ others) why r left u P e a s =
    refused_step reason.stands reason.why why (first_of others) r left u (Unless others r left u P) e a s (λ d. refused_by others why r left u P d a s)

-- where none of the reasons stands, the call is obeyed
obeyed_step : {T : Type 0} (b : Bool) (first : Refusal) (o : Option Refusal) (r : Answer) (left u : T) (P : Type 0)
    → cond b (Some first) o ≡ None → (o ≡ None → P) → If b (Refuses first r left u) P
obeyed_step true first o r left u P e k = absurd (never (Some first) first e refl)
obeyed_step false first o r left u P e k = k e

pub obeyed_by : {T : Type 0} (reasons : List Reason) (r : Answer) (left u : T) (P : Type 0) → first_of reasons ≡ None → P → Unless reasons r left u P
obeyed_by [] r left u P e p = p
obeyed_by (reason ∷ others) r left u P e p =
    obeyed_step reason.stands reason.why (first_of others) r left u (Unless others r left u P) e (λ d. obeyed_by others r left u P d p)
