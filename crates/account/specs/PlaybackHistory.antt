-- Histories of a playback stream, and what they tell.
--   Situation        a stream with its sink and its two memories
--   Step             each call by its rule; a call that is given memory of another length is refused by 3
--   kind_of c        what kind of call it is
--   frames_committed h   the frames committed, in order: at each obeyed commit of n the first n frames of the area as it then stood
--   waiting h        the numbers of the frames that wait, the oldest first
--   played h         the numbers of the frames played, in order: at each tick the first of those waiting
--   answered h       the entries that takes have answered, in order
--   entries h end    both
--   deeds h          what was done with leases, the newest first
-- Assumes nothing.
use Rattle.std.specs.Prelude.{◌≡◌, ℕ, List, [], ◌∷◌, ◌++◌, length, take, drop}
use Rattle.codes.specs.declared.refusal.Refusal.TheVariants as refusal
use Rattle.frames.specs.declared.frame.Frame.{Frame}
use Rattle.sinks.specs.Sink.{SinkPoints}
use Rattle.calls.specs.Answers.{Answer}
use Rattle.calls.specs.declared.call.Given.TheVariants.{Own, Another}
use Rattle.calls.specs.declared.call.PlaybackCall.{PlaybackCall}
use Rattle.calls.specs.declared.call.PlaybackCall.TheVariants.{Begin, Put, Mix, Commit, Start, Tick, Pause, Resume, Drain, Drop, Prepare, Take}
use Rattle.calls.specs.declared.entry.Entry.{Entry}
use Rattle.calls.specs.declared.verdict.CallKind.{CallKind}
use Rattle.calls.specs.declared.verdict.CallKind.TheVariants as kind
use Rattle.account.specs.Areas.{area}
use Rattle.account.specs.Playback.{Begins, Puts, Mixes, Commits, Turns, Drains, Drops, Prepares, Takes, Ticks}
use Rattle.account.specs.PlaybackBook.{Book}
use Rattle.account.specs.Rules.{Refuses}
use Rattle.account.specs.Entries.{answered_then, further}
use Rattle.account.specs.Happenings.{Happening, granted, committed, given_back, ticked, emptied, taken, copied, nothing, of_playback_call}
use Rattle.account.specs.Histories.{Moment, History}
use Rattle.account.specs.Leases.{Deed, deed}
use Rattle.account.specs.Numbers.{numbers}

pub record Situation (S : Type 0) : Type 0 where
  pub stream : Book
  pub sink : S
  pub memory : List Frame
  pub ledger : List Entry

-- only the stream's numbers may have changed
pub record RestSame {S : Type 0} (t u : Situation S) : Type 0 where
  pub sink_same : u.sink ≡ t.sink
  pub memory_same : u.memory ≡ t.memory
  pub ledger_same : u.ledger ≡ t.ledger

module _ {S : Type 0} (p : SinkPoints S) where
  abbrev pub Step : Situation S → PlaybackCall → Answer → Situation S → Type 0
  Step t (Begin wanted) r u = Begins t.stream wanted r u.stream × RestSame t u
  Step t (Put Own l j fs) r u = Puts t.stream t.memory l j fs.now r u.memory × (u.stream ≡ t.stream) × (u.sink ≡ t.sink) × (u.ledger ≡ t.ledger)
  Step t (Put Another l j fs) r u = Refuses refusal.Memory r t u
  Step t (Mix Own l j fs) r u = Mixes t.stream t.memory l j fs.now r u.memory × (u.stream ≡ t.stream) × (u.sink ≡ t.sink) × (u.ledger ≡ t.ledger)
  Step t (Mix Another l j fs) r u = Refuses refusal.Memory r t u
  Step t (Commit l n) r u = Commits t.stream l n r u.stream × RestSame t u
  Step t Start r u = Turns t.stream kind.Start r u.stream × RestSame t u
  Step t (Tick Own Own k) r u = Ticks p t.stream t.sink t.memory t.ledger k r u.stream u.sink u.ledger × (u.memory ≡ t.memory)
  Step t (Tick Own Another k) r u = Refuses refusal.Memory r t u
  Step t (Tick Another g k) r u = Refuses refusal.Memory r t u
  Step t Pause r u = Turns t.stream kind.Pause r u.stream × RestSame t u
  Step t Resume r u = Turns t.stream kind.Resume r u.stream × RestSame t u
  Step t Drain r u = Drains t.stream r u.stream × RestSame t u
  Step t (Drop Own) r u = Drops t.stream t.ledger r u.stream u.ledger × (u.sink ≡ t.sink) × (u.memory ≡ t.memory)
  Step t (Drop Another) r u = Refuses refusal.Memory r t u
  Step t (Prepare Own) r u = Prepares p t.stream t.sink t.ledger r u.stream u.sink u.ledger × (u.memory ≡ t.memory)
  Step t (Prepare Another) r u = Refuses refusal.Memory r t u
  Step t (Take Own) r u = Takes t.stream t.ledger r u.stream × RestSame t u
  Step t (Take Another) r u = Refuses refusal.Memory r t u

abbrev pub kind_of : PlaybackCall → CallKind
kind_of (Begin wanted) = kind.Begin
kind_of (Put g l j fs) = kind.Access
kind_of (Mix g l j fs) = kind.Access
kind_of (Commit l n) = kind.Commit
kind_of Start = kind.Start
kind_of (Tick g e k) = kind.Tick
kind_of Pause = kind.Pause
kind_of Resume = kind.Resume
kind_of Drain = kind.Drain
kind_of (Drop g) = kind.Drop
kind_of (Prepare g) = kind.Prepare
kind_of (Take g) = kind.Take

abbrev pub Past : Type 0 → Type 0
Past S = History (Situation S) PlaybackCall

-- ---- what a happening does to each word

abbrev pub committed_then : List Frame → List Frame → Happening → List Frame
committed_then fs m (granted l) = fs
committed_then fs m (committed l n) = fs ++ area m l.place n
committed_then fs m (given_back l) = fs
committed_then fs m (ticked k n) = fs
committed_then fs m emptied = fs
committed_then fs m (taken e) = fs
committed_then fs m (copied l j x n) = fs
committed_then fs m nothing = fs

abbrev pub waiting_then : List ℕ → ℕ → Happening → List ℕ
waiting_then w a (granted l) = w
waiting_then w a (committed l n) = w ++ numbers a n
waiting_then w a (given_back l) = w
waiting_then w a (ticked k n) = drop n w
waiting_then w a emptied = []
waiting_then w a (taken e) = w
waiting_then w a (copied l j x n) = w
waiting_then w a nothing = w

abbrev pub played_then : List ℕ → List ℕ → Happening → List ℕ
played_then ps w (granted l) = ps
played_then ps w (committed l n) = ps
played_then ps w (given_back l) = ps
played_then ps w (ticked k n) = ps ++ take n w
played_then ps w emptied = ps
played_then ps w (taken e) = ps
played_then ps w (copied l j x n) = ps
played_then ps w nothing = ps

-- ---- the words

abbrev pub happened : {S : Type 0} → Moment (Situation S) PlaybackCall → Happening
happened m = of_playback_call m.call m.answer

-- the word committed
abbrev pub frames_committed : {S : Type 0} → Past S → List Frame
frames_committed [] = []
frames_committed (m ∷ past) = committed_then (frames_committed past) m.before.memory (happened m)

abbrev pub waiting : {S : Type 0} → Past S → List ℕ
waiting [] = []
waiting (m ∷ past) = waiting_then (waiting past) (length (frames_committed past)) (happened m)

abbrev pub played : {S : Type 0} → Past S → List ℕ
played [] = []
played (m ∷ past) = played_then (played past) (waiting past) (happened m)

abbrev pub answered : {S : Type 0} → Past S → List Entry
answered [] = []
answered (m ∷ past) = answered_then (answered past) (happened m)

abbrev pub entries : {S : Type 0} → Past S → Situation S → List Entry
entries h end = answered h ++ further end.stream.ledger end.ledger

abbrev pub deeds : {S : Type 0} → Past S → List Deed
deeds [] = []
deeds (m ∷ past) = deed m.before.stream.lending.out (happened m) ++ deeds past
