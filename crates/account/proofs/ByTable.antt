-- The refusals of a commit by its state, told from the table of states. Assumes nothing.
use Rattle.std.proofs.Common.{ℕ, Bool, not, ◌&&◌, List, [], ◌∷◌}
use Rattle.codes.specs.declared.refusal.Refusal.TheVariants as refusal
use Rattle.codes.specs.declared.state.State.{State}
use Rattle.codes.specs.declared.state.State.TheVariants.{Setup, Prepared, Running, Xrun, Draining, Paused}
use Rattle.calls.specs.Answers.{Answer}
use Rattle.calls.specs.declared.verdict.CallKind.TheVariants as call
use Rattle.calls.specs.Answers.{Verdict}
use Rattle.account.specs.Rules.{Reason, ◌⇒◌, Unless}
use Rattle.account.specs.States.{among, playback_decides, capture_decides, is_refusal, why_of, refusing}

-- the reason to refuse that a verdict may be, unless c holds
abbrev pub refusing_unless : Bool → Verdict → Reason
refusing_unless c v = (is_refusal v && not c) ⇒ why_of v

-- a commit refused by these states changes nothing; refused in XRUN or by the others, it leaves `ended`
abbrev pub ByStates : {T : Type 0} → State → List State → Bool → Answer → T → T → T → List Reason → Type 0 → Type 0
ByStates s states wrong r t ended u others P =
    Unless (wrong ⇒ refusal.WrongLease ∷ among s states ⇒ refusal.State ∷ []) r t u (Unless (among s (Xrun ∷ []) ⇒ refusal.Xrun ∷ others) r ended u P)

-- the same by a verdict
abbrev pub ByVerdict : {T : Type 0} → State → Verdict → Bool → Answer → T → T → T → List Reason → Type 0 → Type 0
ByVerdict s v wrong r t ended u others P =
    Unless (wrong ⇒ refusal.WrongLease ∷ refusing_unless (among s (Xrun ∷ [])) v ∷ []) r t u (Unless (refusing v ∷ others) r ended u P)

module _ {T : Type 0} (w : ℕ) (wrong : Bool) (r : Answer) (t ended u : T) (others : List Reason) (P : Type 0) where
  pub playback_by_table : (s : State) → ByStates s (Setup ∷ Draining ∷ []) wrong r t ended u others P → ByVerdict s (playback_decides s call.Commit w) wrong r t ended u others P
  playback_by_table Setup went = went
  playback_by_table Prepared went = went
  playback_by_table Running went = went
  playback_by_table Xrun went = went
  playback_by_table Draining went = went
  playback_by_table Paused went = went

  pub capture_by_table : (s : State) → ByStates s (Setup ∷ []) wrong r t ended u others P → ByVerdict s (capture_decides s call.Commit w) wrong r t ended u others P
  capture_by_table Setup went = went
  capture_by_table Prepared went = went
  capture_by_table Running went = went
  capture_by_table Xrun went = went
  capture_by_table Draining went = went
  capture_by_table Paused went = went
