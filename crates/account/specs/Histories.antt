-- Histories of calls.
--   Moment             a call with all that it was given, as it met a situation, its answer, and the situation after
--   History            what happened since set-up, the newest first
--   Leads start h end  the history leads from one situation to another, each call by its rule
--   EachMoment P h    P holds of each moment of a history, and of what was past at it
--   Ran                these calls, tried after a past, were given these answers
-- Assumes nothing.
use Rattle.std.specs.Prelude.{◌≡◌, List, [], ◌∷◌, ◌++◌, map, reverse}
use Rattle.calls.specs.Answers.{Answer}

pub record Moment (T C : Type 0) : Type 0 where
  pub before : T
  pub call : C
  pub answer : Answer
  pub after : T

abbrev pub History : Type 0 → Type 0 → Type 0
History T C = List (Moment T C)

abbrev pub EachMoment : {T C : Type 0} → (History T C → Moment T C → Type 0) → History T C → Type 0
EachMoment P [] = Unit {0}
EachMoment P (m ∷ past) = P past m × EachMoment P past

module _ {T C : Type 0} (Step : T → C → Answer → T → Type 0) where
  abbrev pub Leads : T → History T C → T → Type 0
  Leads start [] end = end ≡ start
  Leads start (m ∷ past) end = Leads start past m.before × Step m.before m.call m.answer m.after × (end ≡ m.after)

  pub record Ran (start : T) (past : History T C) (calls : List C) (answers : List Answer) (end : T) : Type 0 where
    pub since : History T C
    pub leads : Leads start (since ++ past) end
    pub calls_made : map (λ m. m.call) since ≡ reverse calls
    pub answers_told : map (λ m. m.answer) since ≡ reverse answers
