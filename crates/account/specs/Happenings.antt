-- What a call did, told from the call and its answer alone.
--   granted l        an obeyed begin granted the lease l
--   committed l n    an obeyed commit of n frames ended the lease l
--   given_back l     a commit refused by 5, 11 or 13 ended the lease l
--   ticked k n       an obeyed tick of k moved n frames
--   emptied          an obeyed drop or prepare
--   taken e          an obeyed take answered e
--   copied l j x n   an obeyed copy filled n places of the host's memory from place x on, from position j of the lease's area
--   nothing          all else, and every other refusal
-- Assumes nothing.
use Rattle.std.specs.Prelude.{ℕ, Bool, cond, ◌||◌, Option, ◌==◌, Ok, Err}
use Rattle.codes.specs.declared.refusal.Refusal.{Refusal}
use Rattle.codes.specs.Refusals.{refusal_number}
use Rattle.calls.specs.Answers.{Answer}
use Rattle.calls.specs.declared.answer.Outcome.TheVariants as outcome
use Rattle.calls.specs.declared.call.PlaybackCall.{PlaybackCall}
use Rattle.calls.specs.declared.call.PlaybackCall.TheVariants as play
use Rattle.calls.specs.declared.call.CaptureCall.{CaptureCall}
use Rattle.calls.specs.declared.call.CaptureCall.TheVariants as capt
use Rattle.calls.specs.declared.entry.Entry.{Entry}
use Rattle.calls.specs.declared.lease_parts.LeaseParts.{LeaseParts}

pub data Happening : Type 0 where
  granted : LeaseParts → Happening
  committed : LeaseParts → ℕ → Happening
  given_back : LeaseParts → Happening
  ticked : ℕ → ℕ → Happening
  emptied : Happening
  taken : Option Entry → Happening
  copied : LeaseParts → ℕ → ℕ → ℕ → Happening
  nothing : Happening

-- the happening where the call was obeyed with nothing to tell
abbrev pub if_done : Answer → Happening → Happening
if_done (Ok outcome.Done) x = x
if_done (Ok (outcome.Granted l)) x = nothing
if_done (Ok (outcome.Ticked t)) x = nothing
if_done (Ok (outcome.Taken e)) x = nothing
if_done (Err why) x = nothing

abbrev pub at_begin : Answer → Happening
at_begin (Ok outcome.Done) = nothing
at_begin (Ok (outcome.Granted l)) = granted l
at_begin (Ok (outcome.Ticked t)) = nothing
at_begin (Ok (outcome.Taken e)) = nothing
at_begin (Err why) = nothing

-- these refusals of a commit end its lease
abbrev pub ends_lease : Refusal → Bool
ends_lease why = refusal_number why == 5 || (refusal_number why == 11 || refusal_number why == 13)

abbrev pub at_commit : LeaseParts → ℕ → Answer → Happening
at_commit l n (Ok outcome.Done) = committed l n
at_commit l n (Ok (outcome.Granted x)) = nothing
at_commit l n (Ok (outcome.Ticked t)) = nothing
at_commit l n (Ok (outcome.Taken e)) = nothing
at_commit l n (Err why) = cond (ends_lease why) (given_back l) nothing

abbrev pub at_tick : ℕ → Answer → Happening
at_tick k (Ok outcome.Done) = nothing
at_tick k (Ok (outcome.Granted l)) = nothing
at_tick k (Ok (outcome.Ticked t)) = ticked k t.frames
at_tick k (Ok (outcome.Taken e)) = nothing
at_tick k (Err why) = nothing

abbrev pub at_take : Answer → Happening
at_take (Ok outcome.Done) = nothing
at_take (Ok (outcome.Granted l)) = nothing
at_take (Ok (outcome.Ticked t)) = nothing
at_take (Ok (outcome.Taken e)) = taken e
at_take (Err why) = nothing

abbrev pub of_playback_call : PlaybackCall → Answer → Happening
of_playback_call (play.Begin wanted) r = at_begin r
of_playback_call (play.Put g l j fs) r = nothing
of_playback_call (play.Mix g l j fs) r = nothing
of_playback_call (play.Commit l n) r = at_commit l n r
of_playback_call play.Start r = nothing
of_playback_call (play.Tick g e k) r = at_tick k r
of_playback_call play.Pause r = nothing
of_playback_call play.Resume r = nothing
of_playback_call play.Drain r = nothing
of_playback_call (play.Drop g) r = if_done r emptied
of_playback_call (play.Prepare g) r = if_done r emptied
of_playback_call (play.Take g) r = at_take r

abbrev pub of_capture_call : CaptureCall → Answer → Happening
of_capture_call (capt.Begin wanted) r = at_begin r
of_capture_call (capt.Copy g l j x n) r = if_done r (copied l j x n)
of_capture_call (capt.Commit l n) r = at_commit l n r
of_capture_call capt.Start r = nothing
of_capture_call (capt.Tick g e k) r = at_tick k r
of_capture_call capt.Pause r = nothing
of_capture_call capt.Resume r = nothing
of_capture_call capt.Drain r = nothing
of_capture_call (capt.Drop g) r = if_done r emptied
of_capture_call (capt.Prepare g) r = if_done r emptied
of_capture_call (capt.Take g) r = at_take r
