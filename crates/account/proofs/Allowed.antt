-- The states that allow a call: what holds in each of them holds where the call was obeyed. Assumes nothing.
use Rattle.std.proofs.Common.{◌≡◌, ℕ, true, false, cond, eqb, List, [], ◌∷◌, sym, refl, ap, ◌∙◌, subst, inl, inr, Ok}
use Rattle.std.proofs.lemmas.Bool.{both_ways, cases_Bool, or_cases, eqb-true}
use Rattle.codes.specs.declared.state.State.{State}
use Rattle.codes.specs.declared.state.State.TheVariants.{Setup, Prepared, Running, Xrun, Draining, Paused}
use Rattle.codes.specs.States.{state_number}
use Rattle.calls.specs.Answers.{Verdict}
use Rattle.calls.specs.declared.verdict.Effect.TheVariants.{Stay, Move}
use Rattle.account.specs.States.{among, in_states, wrong_state, is_refusal, moves}

-- the state of a number
numbered : ℕ → State
numbered n = cond (eqb n 1) Setup (cond (eqb n 2) Prepared (cond (eqb n 3) Running (cond (eqb n 4) Xrun (cond (eqb n 5) Draining Paused))))

read_back : (s : State) → numbered (state_number s) ≡ s
unfolding numbered
read_back Setup = refl
read_back Prepared = refl
read_back Running = refl
read_back Xrun = refl
read_back Draining = refl
read_back Paused = refl

abbrev pub EachOf : (State → Type 0) → List State → Type 0
EachOf Q [] = Unit {0}
EachOf Q (s ∷ others) = Q s × EachOf Q others

pub among_these : (Q : State → Type 0) (states : List State) → EachOf Q states → (s : State) → among s states ≡ true → Q s
among_these Q [] each s e = absurd (both_ways false refl e)
among_these Q (t ∷ others) each s e =
    elim (or_cases (eqb (state_number s) (state_number t)) (among s others) e) [
      | inl same ↦ subst Q (sym (read_back t) ∙ ap numbered (sym (eqb-true _ _ same)) ∙ read_back s) each.0
      | inr other ↦ among_these Q others each.1 s other
    ]

wrong_refuses : (s : State) → is_refusal (wrong_state s) ≡ true
wrong_refuses s = elim (cases_Bool (among s (Xrun ∷ []))) [ inl e ↦ rw e | inr e ↦ rw e ]

-- a call that is not refused met one of the states that allow it
pub obeyed_in : (Q : State → Type 0) (states : List State) (v : Verdict) → (is_refusal v ≡ false → EachOf Q states) → (s : State) → is_refusal (in_states s states v) ≡ false → Q s
obeyed_in Q states v each s e =
    elim (cases_Bool (among s states)) [
      | inl there ↦ among_these Q states (each (rw there at e)) s there
      | inr not_there ↦ absurd (both_ways (is_refusal (wrong_state s)) (rw not_there at e) (wrong_refuses s))
    ]

-- and so did a tick that moved frames
pub moving_in : (Q : State → Type 0) (states : List State) → EachOf Q states → (s : State) → moves (cond (among s states) (Ok Move) (Ok Stay)) ≡ true → Q s
moving_in Q states each s e = elim (cases_Bool (among s states)) [ inl there ↦ among_these Q states each s there | inr not_there ↦ absurd (both_ways false refl (rw not_there at e)) ]
