-- The promise: after any calls, every frame and every lease is accounted for.
--   InArea x out    place x lies in the area of the lease that is out, if one is
--   PlaybackAccount, CaptureAccount   the account of one stream: from its start, by a history, at its end
--   Table            both streams, each with all that its calls are given
--   Step             a call goes by its stream's rule, and leaves all of the other stream's as it was
--   of_playback, of_capture   what of a history happened to one stream
--   SetUp            both streams are just set up, over any sink and source, with memory of their sizes
--   Account          both accounts
--   GoesOn          after any past since set-up, the history goes on with these calls and these answers, and both accounts hold
--   AlwaysAccounted   both accounts hold after every history since set-up
-- Assumes nothing.
use Rattle.std.specs.Prelude.{◌≡◌, ℕ, ◌+◌, ◌-◌, ◌%◌, ◌<◌, ◌≤◌, true, ◌≢◌, List, [], ◌∷◌, ◌++◌, map, length, Some, None, Option, slice_index_or, Err}
use Rattle.codes.specs.declared.entry_kind.EntryKind.TheVariants as entry
use Rattle.codes.specs.declared.refusal.Refusal.TheVariants as refusal
use Rattle.codes.specs.declared.state.State.TheVariants.{Xrun}
use Rattle.frames.specs.Samples.{silence}
use Rattle.geometry.specs.Pointers.{pointer_of, playback_avail, capture_avail}
use Rattle.sinks.specs.Sink.{SinkPoints}
use Rattle.sources.specs.Source.{SourcePoints}
use Rattle.calls.specs.Answers.{Answer}
use Rattle.calls.specs.declared.call.Call.{Call}
use Rattle.calls.specs.declared.call.Call.TheVariants.{Playback, Capture}
use Rattle.calls.specs.declared.lease_parts.LeaseParts.{LeaseParts}
use Rattle.calls.specs.declared.verdict.CallKind.TheVariants as call
use Rattle.account.specs.PlaybackBook as play_book
use Rattle.account.specs.CaptureBook as capt_book
use Rattle.account.specs.Entries.{of_kinds}
use Rattle.account.specs.Histories.{History, EachMoment, Leads, Ran}
use Rattle.account.specs.Leases.{EachEndsOnce, Numbered}
use Rattle.account.specs.Meanings.{PlaybackMeans, CaptureMeans}
use Rattle.account.specs.Numbers.{numbers, times, lies, Rises, RiseFrom}
use Rattle.account.specs.States.{names_lease}
use Rattle.account.specs.PlaybackHistory as play
use Rattle.account.specs.CaptureHistory as capt

abbrev pub InArea : ℕ → Option LeaseParts → Type 0
InArea x None = ⊥
InArea x (Some l) = (l.place ≤ x) × (x < l.place + l.length)

pub record PlaybackAccount {S : Type 0} (p : SinkPoints S) (start : play.Situation S) (h : play.Past S) (end : play.Situation S) : Type 0 where
  pub each_committed_frame_once : (n : ℕ) → n < length (play.frames_committed h) → (times n (play.waiting h) + times n (play.played h)) + lies n (play.entries h end) ≡ 1
  pub no_other_frame : (n : ℕ) → length (play.frames_committed h) ≤ n → (times n (play.waiting h) + times n (play.played h)) + lies n (play.entries h end) ≡ 0
  pub heard_is_what_was_played : p.heard end.sink ≡ p.heard start.sink ++ p.makes start.sink (map (λ n. slice_index_or (play.frames_committed h) n silence) (play.played h))
  pub played_in_commit_order : Rises (play.played h)
  pub each_lease_ends_once : EachEndsOnce (play.deeds h) end.stream.lending.out
  pub leases_are_numbered : Numbered (play.deeds h)
  pub hardware_keeps_out : (x : ℕ) → InArea x end.stream.lending.out → (n : ℕ) → 0 < times n (play.waiting h) → n % end.stream.geometry.buffer ≢ x
  pub ticks_leave_the_memory : EachMoment (λ past m. play.kind_of m.call ≡ call.Tick → m.after.memory ≡ m.before.memory) h
  pub lost_stretches_rise : RiseFrom 0 (play.entries h end) end.stream.oldest
  pub states_mean_what_they_say : PlaybackMeans end.stream.state (length (play.waiting h)) end.stream.geometry.threshold end.stream.lending.out
  pub no_lease_meets_a_wrong_state : EachMoment (λ past m. names_lease (play.kind_of m.call) ≡ true → m.answer ≢ Err refusal.State) h
  pub counts_are_the_words : (end.stream.committed ≡ length (play.frames_committed h)) × (end.stream.committed - end.stream.oldest ≡ length (play.waiting h))
  pub avail_is_what_is_free : playback_avail end.stream.geometry.buffer end.stream.geometry.boundary (pointer_of end.stream.geometry.boundary end.stream.oldest) (pointer_of end.stream.geometry.boundary end.stream.committed) ≡ end.stream.geometry.buffer - length (play.waiting h)

pub record CaptureAccount {R : Type 0} (p : SourcePoints R) (start : capt.Situation R) (h : capt.Past R) (end : capt.Situation R) : Type 0 where
  pub each_captured_frame_once : (n : ℕ) → n < length (capt.given_up p h) → (times n (capt.unread p h) + times n (capt.handed_over p h)) + lies n (capt.entries h end) ≡ 1
  pub no_other_frame : (n : ℕ) → length (capt.given_up p h) ≤ n → (times n (capt.unread p h) + times n (capt.handed_over p h)) + lies n (capt.entries h end) ≡ 0
  pub nothing_swallowed : p.coming start.source ≡ capt.given_up p h ++ p.coming end.source
  pub handed_over_is_the_source : capt.frames_handed_over h ≡ map (λ n. slice_index_or (p.coming start.source) n silence) (capt.handed_over p h)
  pub handed_over_in_order : Rises (capt.handed_over p h)
  pub copied_is_the_source : capt.frames_copied h ≡ map (λ n. slice_index_or (p.coming start.source) n silence) (capt.copied_numbers p h)
  pub each_lease_ends_once : EachEndsOnce (capt.deeds h) end.stream.lending.out
  pub leases_are_numbered : Numbered (capt.deeds h)
  pub hardware_keeps_out : (x : ℕ) → InArea x end.stream.lending.out → (n : ℕ) × (0 < times n (capt.unread p h)) × (n % end.stream.geometry.buffer ≡ x)
  pub ticks_leave_what_is_unread : EachMoment (λ past m. capt.kind_of m.call ≡ call.Tick → (n : ℕ) → 0 < times n (capt.unread p past) → capt.frame_at m.after n ≡ capt.frame_at m.before n) h
  pub lost_stretches_are_apart : (n : ℕ) → lies n (capt.entries h end) ≤ 1
  pub overruns_rise : RiseFrom 0 (of_kinds (entry.Overrun ∷ []) (capt.entries h end)) end.stream.given_up
  pub thrown_away_rise : RiseFrom 0 (of_kinds (entry.Prepared ∷ entry.Dropped ∷ []) (capt.entries h end)) end.stream.oldest
  pub unread_are_the_last_given_up_unless_in_xrun : end.stream.state ≢ Xrun → (capt.unread p h ≡ numbers end.stream.oldest (length (capt.unread p h))) × (end.stream.oldest + length (capt.unread p h) ≡ length (capt.given_up p h))
  pub states_mean_what_they_say : CaptureMeans end.stream.state (length (capt.unread p h)) end.stream.geometry.buffer end.stream.lending.out
  pub no_lease_meets_a_wrong_state : EachMoment (λ past m. names_lease (capt.kind_of m.call) ≡ true → m.answer ≢ Err refusal.State) h
  pub counts_are_the_words : (end.stream.given_up ≡ length (capt.given_up p h)) × (end.stream.unread ≡ length (capt.unread p h))
  pub avail_is_what_is_unread : capture_avail end.stream.geometry.boundary (pointer_of end.stream.geometry.boundary (end.stream.oldest + end.stream.unread)) (pointer_of end.stream.geometry.boundary end.stream.oldest) ≡ length (capt.unread p h)

-- ---- both streams

pub record Table (S R : Type 0) : Type 0 where
  pub playback : play.Situation S
  pub capture : capt.Situation R

abbrev pub Step : {S R : Type 0} → SinkPoints S → SourcePoints R → Table S R → Call → Answer → Table S R → Type 0
Step p q t (Playback c) r u = play.Step p t.playback c r u.playback × (u.capture ≡ t.capture)
Step p q t (Capture c) r u = capt.Step q t.capture c r u.capture × (u.playback ≡ t.playback)

abbrev pub Past : Type 0 → Type 0 → Type 0
Past S R = History (Table S R) Call

abbrev pub playback_then : {S R : Type 0} → play.Past S → Table S R → Call → Answer → Table S R → play.Past S
playback_then past t (Playback c) r u = record { before = t.playback; call = c; answer = r; after = u.playback } ∷ past
playback_then past t (Capture c) r u = past

-- what happened to the playback stream
abbrev pub of_playback : {S R : Type 0} → Past S R → play.Past S
of_playback [] = []
of_playback (m ∷ past) = playback_then (of_playback past) m.before m.call m.answer m.after

abbrev pub capture_then : {S R : Type 0} → capt.Past R → Table S R → Call → Answer → Table S R → capt.Past R
capture_then past t (Playback c) r u = past
capture_then past t (Capture c) r u = record { before = t.capture; call = c; answer = r; after = u.capture } ∷ past

-- what happened to the capture stream
abbrev pub of_capture : {S R : Type 0} → Past S R → capt.Past R
of_capture [] = []
of_capture (m ∷ past) = capture_then (of_capture past) m.before m.call m.answer m.after

-- both streams just set up, over any sink and source, with memory of their sizes
pub record SetUp {S R : Type 0} (t : Table S R) : Type 0 where
  pub playback_fresh : t.playback.stream ≡ play_book.fresh t.playback.stream.geometry
  pub playback_memory : length t.playback.memory ≡ t.playback.stream.geometry.buffer
  pub playback_ledger : length t.playback.ledger ≡ t.playback.stream.geometry.ledger
  pub capture_fresh : t.capture.stream ≡ capt_book.fresh t.capture.stream.geometry
  pub capture_memory : length t.capture.memory ≡ t.capture.stream.geometry.buffer
  pub capture_ledger : length t.capture.ledger ≡ t.capture.stream.geometry.ledger

pub record Account {S R : Type 0} (p : SinkPoints S) (q : SourcePoints R) (start : Table S R) (h : Past S R) (end : Table S R) : Type 0 where
  pub playback : PlaybackAccount p start.playback (of_playback h) end.playback
  pub capture : CaptureAccount q start.capture (of_capture h) end.capture

abbrev pub GoesOn : {S R : Type 0} → SinkPoints S → SourcePoints R → Table S R → List Call → List Answer → Table S R → Type 0
GoesOn {S} {R} p q before calls answers end =
    (start : Table S R) (past : Past S R) → SetUp start → Leads (Step p q) start past before
    → (ran : Ran (Step p q) start past calls answers end) × Account p q start (ran.since ++ past) end

-- the account holds after every history since set-up
abbrev pub AlwaysAccounted : {S R : Type 0} → SinkPoints S → SourcePoints R → Type 0
AlwaysAccounted {S} {R} p q = (start : Table S R) (h : Past S R) (end : Table S R) → SetUp start → Leads (Step p q) start h end → Account p q start h end
