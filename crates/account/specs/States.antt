-- Which calls a state allows, and what they make of it.
--   among s states       whether s is one of these states
--   wrong_state s        a call that is not for this state: refused by 5 in XRUN, by 4 elsewhere
--   playback_decides     what a state of a playback stream makes of a call, by how many frames wait
--   capture_decides      the same of a capture stream, by how many frames are unread
--   refusing v           the reason to refuse that a verdict may be
--   moves v              whether frames move: a tick is never refused for its state, it moves frames or does nothing
--   entered v s          the state after it
--   names_lease k        whether calls of this kind name a lease: put, mix, copy and commit do
-- Assumes nothing.
use Rattle.std.specs.Prelude.{ℕ, Bool, true, false, cond, ◌||◌, List, [], ◌∷◌, ◌==◌, Ok, Err}
use Rattle.codes.specs.declared.refusal.Refusal.{Refusal}
use Rattle.codes.specs.declared.refusal.Refusal.TheVariants as refusal
use Rattle.codes.specs.declared.state.State.{State}
use Rattle.codes.specs.declared.state.State.TheVariants.{Setup, Prepared, Running, Xrun, Draining, Paused}
use Rattle.codes.specs.States.{state_number}
use Rattle.calls.specs.declared.verdict.CallKind.{CallKind}
use Rattle.calls.specs.declared.verdict.CallKind.TheVariants.{Begin, Access, Commit, Start, Tick, Pause, Resume, Drain, Drop, Prepare, Take}
use Rattle.calls.specs.Answers.{Verdict}
use Rattle.calls.specs.declared.verdict.Effect.TheVariants.{Stay, Move, Enter}
use Rattle.account.specs.Rules.{Reason, ◌⇒◌}

abbrev pub among : State → List State → Bool
among s [] = false
among s (t ∷ ts) = state_number s == state_number t || among s ts

abbrev pub wrong_state : State → Verdict
wrong_state s = cond (among s (Xrun ∷ [])) (Err refusal.Xrun) (Err refusal.State)

-- the verdict in these states, and refused in the others
abbrev pub in_states : State → List State → Verdict → Verdict
in_states s states v = cond (among s states) v (wrong_state s)

abbrev pub playback_decides : State → CallKind → ℕ → Verdict
playback_decides s Begin waiting = in_states s (Prepared ∷ Running ∷ Paused ∷ []) (Ok Stay)
playback_decides s Access waiting = in_states s (Prepared ∷ Running ∷ Paused ∷ []) (Ok Stay)
playback_decides s Commit waiting = in_states s (Prepared ∷ Running ∷ Paused ∷ []) (Ok Stay)
playback_decides s Start waiting = in_states s (Prepared ∷ []) (cond (waiting == 0) (Err refusal.NothingWaiting) (Ok (Enter Running)))
playback_decides s Tick waiting = cond (among s (Running ∷ Draining ∷ [])) (Ok Move) (Ok Stay)
playback_decides s Pause waiting = in_states s (Running ∷ []) (Ok (Enter Paused))
playback_decides s Resume waiting = in_states s (Paused ∷ []) (Ok (Enter Running))
playback_decides s Drain waiting = in_states s (Prepared ∷ Running ∷ []) (Ok (Enter (cond (waiting == 0) Setup Draining)))
playback_decides s Drop waiting = in_states s (Prepared ∷ Running ∷ Xrun ∷ Draining ∷ Paused ∷ []) (Ok (Enter Setup))
playback_decides s Prepare waiting = in_states s (Setup ∷ Xrun ∷ []) (Ok (Enter Prepared))
playback_decides s Take waiting = Ok Stay

abbrev pub capture_decides : State → CallKind → ℕ → Verdict
capture_decides s Begin unread = in_states s (Prepared ∷ Running ∷ Draining ∷ Paused ∷ []) (Ok Stay)
capture_decides s Access unread = in_states s (Prepared ∷ Running ∷ Draining ∷ Paused ∷ []) (Ok Stay)
capture_decides s Commit unread = in_states s (Prepared ∷ Running ∷ Draining ∷ Paused ∷ []) (Ok Stay)
capture_decides s Start unread = in_states s (Prepared ∷ []) (Ok (Enter Running))
capture_decides s Tick unread = cond (among s (Running ∷ [])) (Ok Move) (Ok Stay)
capture_decides s Pause unread = in_states s (Running ∷ []) (Ok (Enter Paused))
capture_decides s Resume unread = in_states s (Paused ∷ []) (Ok (Enter Running))
capture_decides s Drain unread = in_states s (Prepared ∷ Running ∷ []) (Ok (Enter (cond (unread == 0) Setup Draining)))
capture_decides s Drop unread = in_states s (Prepared ∷ Running ∷ Xrun ∷ Draining ∷ Paused ∷ []) (Ok (Enter Setup))
capture_decides s Prepare unread = in_states s (Setup ∷ Xrun ∷ []) (Ok (Enter Prepared))
capture_decides s Take unread = Ok Stay

abbrev pub is_refusal : Verdict → Bool
is_refusal (Ok effect) = false
is_refusal (Err why) = true

abbrev pub why_of : Verdict → Refusal
why_of (Ok effect) = refusal.State
why_of (Err why) = why

abbrev pub refusing : Verdict → Reason
refusing v = is_refusal v ⇒ why_of v

abbrev pub moves : Verdict → Bool
moves (Ok Stay) = false
moves (Ok Move) = true
moves (Ok (Enter s)) = false
moves (Err why) = false

abbrev pub entered : Verdict → State → State
entered (Ok Stay) s = s
entered (Ok Move) s = s
entered (Ok (Enter t)) s = t
entered (Err why) s = s

abbrev pub names_lease : CallKind → Bool
names_lease Begin = false
names_lease Access = true
names_lease Commit = true
names_lease Start = false
names_lease Tick = false
names_lease Pause = false
names_lease Resume = false
names_lease Drain = false
names_lease Drop = false
names_lease Prepare = false
names_lease Take = false
