-- Rules of calls.
--   stands ⇒ why        a reason to refuse: where `stands` holds, the call is refused by `why`
--   first_of reasons    the first reason that stands, if one does
--   Refuses why r t u   the answer is the refusal, and what was t is as it was
--   Unless reasons r left u obeyed   the first reason that stands refuses the call and leaves `left`; where none stands, the
--                       call is obeyed
-- Assumes nothing.
use Rattle.std.specs.Prelude.{◌≡◌, Bool, true, false, cond, List, [], ◌∷◌, Some, None, Option, Err}
use Rattle.codes.specs.declared.refusal.Refusal.{Refusal}
use Rattle.calls.specs.Answers.{Answer}

infix 70 ◌⇒◌
pub record Reason : Type 0 where
  pub stands : Bool
  pub why : Refusal

abbrev pub ◌⇒◌ : Bool → Refusal → Reason
stands ⇒ why = record { stands = stands; why = why }

abbrev pub first_of : List Reason → Option Refusal
first_of [] = None
first_of (reason ∷ others) = cond reason.stands (Some reason.why) (first_of others)

abbrev pub Refuses : {T : Type 0} → Refusal → Answer → T → T → Type 0
Refuses why r left u = (r ≡ Err why) × (u ≡ left)

abbrev pub If : Bool → Type 0 → Type 0 → Type 0
If true a b = a
If false a b = b

abbrev pub Unless : {T : Type 0} → List Reason → Answer → T → T → Type 0 → Type 0
Unless [] r left u obeyed = obeyed
Unless (reason ∷ others) r left u obeyed = If reason.stands (Refuses reason.why r left u) (Unless others r left u obeyed)
