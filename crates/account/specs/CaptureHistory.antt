-- Histories of a capture stream, and what they tell.
--   Situation          a stream with its source, its two memories and the host's memory that copies go into
--   Step               each call by its rule; a call that is given memory of another length is refused by 3
--   kind_of c          what kind of call it is
--   frame_at t n       the frame in the frame memory at the place of number n
--   given_up h         the frames that the source gave up, in order: at each tick those that left its list
--   unread h           the numbers of the frames that wait to be read, the oldest first: of those that a tick got, the first that
--                      it stored
--   handed_over h      the numbers of the frames handed over, in order: at each obeyed commit of n the first n of those unread
--   frames_handed_over h   the frames handed over: at each obeyed commit of n the first n of the area as it then stood
--   copied_numbers h, frames_copied h   the numbers of the frames that copies gave the host, and what stands in its memory
--   entries h end      the entries that takes have answered and would answer
--   deeds h            what was done with leases, the newest first
-- Assumes nothing.
use Rattle.std.specs.Prelude.{◌≡◌, ℕ, ◌-◌, ◌%◌, List, [], ◌∷◌, ◌++◌, length, take, drop, slice_index_or}
use Rattle.std.proofs.Math.Seq.{paste}
use Rattle.codes.specs.declared.refusal.Refusal.TheVariants as refusal
use Rattle.frames.specs.declared.frame.Frame.{Frame}
use Rattle.frames.specs.Samples.{silence}
use Rattle.sources.specs.Source.{SourcePoints}
use Rattle.calls.specs.Answers.{Answer}
use Rattle.calls.specs.declared.call.Given.TheVariants.{Own, Another}
use Rattle.calls.specs.declared.call.CaptureCall.{CaptureCall}
use Rattle.calls.specs.declared.call.CaptureCall.TheVariants.{Begin, Copy, Commit, Start, Tick, Pause, Resume, Drain, Drop, Prepare, Take}
use Rattle.calls.specs.declared.entry.Entry.{Entry}
use Rattle.calls.specs.declared.verdict.CallKind.{CallKind}
use Rattle.calls.specs.declared.verdict.CallKind.TheVariants as kind
use Rattle.account.specs.Areas.{area}
use Rattle.account.specs.Capture.{Begins, Copies, Commits, Turns, Drains, Drops, Prepares, Takes, Ticks}
use Rattle.account.specs.CaptureBook.{Book}
use Rattle.account.specs.Rules.{Refuses}
use Rattle.account.specs.Entries.{answered_then, further}
use Rattle.account.specs.Happenings.{Happening, granted, committed, given_back, ticked, emptied, taken, copied, nothing, of_capture_call}
use Rattle.account.specs.Histories.{Moment, History}
use Rattle.account.specs.Leases.{Deed, deed}
use Rattle.account.specs.Numbers.{numbers}

pub record Situation (R : Type 0) : Type 0 where
  pub stream : Book
  pub source : R
  pub memory : List Frame
  pub ledger : List Entry
  pub host : List Frame

abbrev pub frame_at : {R : Type 0} → Situation R → ℕ → Frame
frame_at t n = slice_index_or t.memory (n % t.stream.geometry.buffer) silence

-- only the stream's numbers may have changed
pub record RestSame {R : Type 0} (t u : Situation R) : Type 0 where
  pub source_same : u.source ≡ t.source
  pub memory_same : u.memory ≡ t.memory
  pub ledger_same : u.ledger ≡ t.ledger
  pub host_same : u.host ≡ t.host

-- a copy into the n places of the host's memory from place x on, as far as that memory goes
pub record CopiedInto {R : Type 0} (t : Situation R) (part part' : List Frame) (x : ℕ) (u : Situation R) : Type 0 where
  pub host_after : u.host ≡ paste t.host x part' (length part)
  pub stream_same : u.stream ≡ t.stream
  pub source_same : u.source ≡ t.source
  pub memory_same : u.memory ≡ t.memory
  pub ledger_same : u.ledger ≡ t.ledger

module _ {R : Type 0} (p : SourcePoints R) where
  abbrev pub Step : Situation R → CaptureCall → Answer → Situation R → Type 0
  Step t (Begin wanted) r u = Begins t.stream wanted r u.stream × RestSame t u
  Step t (Copy Own l j x n) r u =
      (part' : List Frame) × Copies t.stream t.memory l j (area t.host x n) r part' × CopiedInto t (area t.host x n) part' x u
  Step t (Copy Another l j x n) r u = Refuses refusal.Memory r t u
  Step t (Commit l n) r u = Commits t.stream l n r u.stream × RestSame t u
  Step t Start r u = Turns t.stream kind.Start r u.stream × RestSame t u
  Step t (Tick Own Own k) r u =
      Ticks p t.stream t.source t.memory t.ledger k r u.stream u.source u.memory u.ledger × (u.host ≡ t.host)
  Step t (Tick Own Another k) r u = Refuses refusal.Memory r t u
  Step t (Tick Another g k) r u = Refuses refusal.Memory r t u
  Step t Pause r u = Turns t.stream kind.Pause r u.stream × RestSame t u
  Step t Resume r u = Turns t.stream kind.Resume r u.stream × RestSame t u
  Step t Drain r u = Drains t.stream r u.stream × RestSame t u
  Step t (Drop Own) r u = Drops t.stream t.ledger r u.stream u.ledger × (u.source ≡ t.source) × (u.memory ≡ t.memory) × (u.host ≡ t.host)
  Step t (Drop Another) r u = Refuses refusal.Memory r t u
  Step t (Prepare Own) r u = Prepares t.stream t.ledger r u.stream u.ledger × (u.source ≡ t.source) × (u.memory ≡ t.memory) × (u.host ≡ t.host)
  Step t (Prepare Another) r u = Refuses refusal.Memory r t u
  Step t (Take Own) r u = Takes t.stream t.ledger r u.stream × RestSame t u
  Step t (Take Another) r u = Refuses refusal.Memory r t u

abbrev pub kind_of : CaptureCall → CallKind
kind_of (Begin wanted) = kind.Begin
kind_of (Copy g l j x n) = kind.Access
kind_of (Commit l n) = kind.Commit
kind_of Start = kind.Start
kind_of (Tick g e k) = kind.Tick
kind_of Pause = kind.Pause
kind_of Resume = kind.Resume
kind_of Drain = kind.Drain
kind_of (Drop g) = kind.Drop
kind_of (Prepare g) = kind.Prepare
kind_of (Take g) = kind.Take

abbrev pub Past : Type 0 → Type 0
Past R = History (Situation R) CaptureCall

-- ---- what a happening does to each word

-- what left a list of frames to come
abbrev pub left_the_list : List Frame → List Frame → List Frame
left_the_list before after = take (length before - length after) before

abbrev pub unread_then : List ℕ → ℕ → Happening → List ℕ
unread_then w g (granted l) = w
unread_then w g (committed l n) = drop n w
unread_then w g (given_back l) = w
unread_then w g (ticked k n) = w ++ numbers g n
unread_then w g emptied = []
unread_then w g (taken e) = w
unread_then w g (copied l j x n) = w
unread_then w g nothing = w

abbrev pub handed_over_then : List ℕ → List ℕ → Happening → List ℕ
handed_over_then ns w (granted l) = ns
handed_over_then ns w (committed l n) = ns ++ take n w
handed_over_then ns w (given_back l) = ns
handed_over_then ns w (ticked k n) = ns
handed_over_then ns w emptied = ns
handed_over_then ns w (taken e) = ns
handed_over_then ns w (copied l j x n) = ns
handed_over_then ns w nothing = ns

abbrev pub frames_then : List Frame → List Frame → Happening → List Frame
frames_then fs m (granted l) = fs
frames_then fs m (committed l n) = fs ++ area m l.place n
frames_then fs m (given_back l) = fs
frames_then fs m (ticked k n) = fs
frames_then fs m emptied = fs
frames_then fs m (taken e) = fs
frames_then fs m (copied l j x n) = fs
frames_then fs m nothing = fs

-- a copy from position j gives the unread frames from the j-th on, as many as the host's memory has places for
abbrev pub copied_then : List ℕ → List ℕ → List Frame → Happening → List ℕ
copied_then ns w host (granted l) = ns
copied_then ns w host (committed l n) = ns
copied_then ns w host (given_back l) = ns
copied_then ns w host (ticked k n) = ns
copied_then ns w host emptied = ns
copied_then ns w host (taken e) = ns
copied_then ns w host (copied l j x n) = ns ++ take (length (area host x n)) (drop j w)
copied_then ns w host nothing = ns

abbrev pub frames_copied_then : List Frame → List Frame → Happening → List Frame
frames_copied_then fs host (granted l) = fs
frames_copied_then fs host (committed l n) = fs
frames_copied_then fs host (given_back l) = fs
frames_copied_then fs host (ticked k n) = fs
frames_copied_then fs host emptied = fs
frames_copied_then fs host (taken e) = fs
frames_copied_then fs host (copied l j x n) = fs ++ area host x n
frames_copied_then fs host nothing = fs

-- ---- the words

abbrev pub happened : {R : Type 0} → Moment (Situation R) CaptureCall → Happening
happened m = of_capture_call m.call m.answer

abbrev pub given_up : {R : Type 0} → SourcePoints R → Past R → List Frame
given_up p [] = []
given_up p (m ∷ past) = given_up p past ++ left_the_list (p.coming m.before.source) (p.coming m.after.source)

abbrev pub unread : {R : Type 0} → SourcePoints R → Past R → List ℕ
unread p [] = []
unread p (m ∷ past) = unread_then (unread p past) (length (given_up p past)) (happened m)

abbrev pub handed_over : {R : Type 0} → SourcePoints R → Past R → List ℕ
handed_over p [] = []
handed_over p (m ∷ past) = handed_over_then (handed_over p past) (unread p past) (happened m)

abbrev pub frames_handed_over : {R : Type 0} → Past R → List Frame
frames_handed_over [] = []
frames_handed_over (m ∷ past) = frames_then (frames_handed_over past) m.before.memory (happened m)

abbrev pub copied_numbers : {R : Type 0} → SourcePoints R → Past R → List ℕ
copied_numbers p [] = []
copied_numbers p (m ∷ past) = copied_then (copied_numbers p past) (unread p past) m.before.host (happened m)

abbrev pub frames_copied : {R : Type 0} → Past R → List Frame
frames_copied [] = []
frames_copied (m ∷ past) = frames_copied_then (frames_copied past) m.after.host (happened m)

abbrev pub answered : {R : Type 0} → Past R → List Entry
answered [] = []
answered (m ∷ past) = answered_then (answered past) (happened m)

abbrev pub entries : {R : Type 0} → Past R → Situation R → List Entry
entries h end = answered h ++ further end.stream.ledger end.ledger

abbrev pub deeds : {R : Type 0} → Past R → List Deed
deeds [] = []
deeds (m ∷ past) = deed m.before.stream.lending.out (happened m) ++ deeds past
