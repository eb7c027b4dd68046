-- The rule of each call of a capture stream: its refusals in order, and what an obeyed call does. Each leaves all that it
-- does not speak of as it was.
--   Begins, Copies, Commits, Turns, Drains, Drops, Prepares, Takes, Ticks   the rules
--   next_lease b wanted   the lease that begin grants: from the place of the oldest unread frame, as long as wanted, as far
--                         as frames are unread and the ring goes on
--   stored s m n fs       a ring memory of s places with frames written from the place of number n on
--   kept b came, lost b came   of the frames that came, those that the ring has room for, and the rest
--   loss kind b           the entry for frames that are thrown away, if any are unread
-- Assumes nothing.
use Rattle.std.specs.Prelude.{◌≡◌, ℕ, suc, ◌+◌, ◌-◌, ◌%◌, Bool, cond, not, ◌&&◌, ltb, List, [], ◌∷◌, length, take, drop, is_some, Some, None, Option, ◌==◌, nat_eq, nat_le, nat_lt, slice_set, Ok}
use Rattle.codes.specs.declared.entry_kind.EntryKind.{EntryKind}
use Rattle.codes.specs.declared.entry_kind.EntryKind.TheVariants as kind
use Rattle.codes.specs.declared.refusal.Refusal.TheVariants as refusal
use Rattle.codes.specs.declared.state.State.{State}
use Rattle.codes.specs.declared.state.State.TheVariants.{Setup, Xrun, Draining}
use Rattle.frames.specs.declared.frame.Frame.{Frame}
use Rattle.geometry.specs.Pointers.{area_length, place_of}
use Rattle.sources.specs.Source.{SourcePoints, Gives}
use Rattle.calls.specs.Answers.{Answer}
use Rattle.calls.specs.declared.answer.Outcome.TheVariants.{Done, Granted, Ticked, Taken}
use Rattle.calls.specs.declared.entry.Entry.{Entry}
use Rattle.calls.specs.declared.lease_parts.LeaseParts.{LeaseParts}
use Rattle.calls.specs.declared.lease_parts.Lending.{Lending}
use Rattle.calls.specs.declared.verdict.CallKind.{CallKind}
use Rattle.calls.specs.declared.verdict.CallKind.TheVariants as call
use Rattle.calls.specs.Answers.{Verdict}
use Rattle.calls.specs.Lending.{holds}
use Rattle.account.specs.Areas.{area, lease_on, with_out, with_none}
use Rattle.account.specs.CaptureBook.{Book, room}
use Rattle.account.specs.Ledgers.{LedgerNumbers, is_full, noted, with_noted, with_taken, oldest_of}
use Rattle.account.specs.Limits.{frame_limit, lease_limit}
use Rattle.account.specs.Playback.{periods, Still}
use Rattle.account.specs.Rules.{Reason, ◌⇒◌, If, Unless}
use Rattle.account.specs.States.{among, capture_decides, refusing, moves, entered}

abbrev pub decides : Book → CallKind → Verdict
decides b c = capture_decides b.state c b.unread

abbrev pub lends : Book → Lending → Book
lends b l =
    record { geometry = b.geometry; state = b.state; given_up = b.given_up; oldest = b.oldest; unread = b.unread; lending = l; ledger = b.ledger }

abbrev pub turned : Book → State → Book
turned b s =
    record { geometry = b.geometry; state = s; given_up = b.given_up; oldest = b.oldest; unread = b.unread; lending = b.lending; ledger = b.ledger }

-- ---- begin

abbrev pub no_begin : Book → ℕ → List Reason
no_begin b wanted =
    is_some b.lending.out ⇒ refusal.LeaseOut
    ∷ refusing (decides b call.Begin)
    ∷ nat_eq wanted 0 ⇒ refusal.Zero
    ∷ nat_eq b.unread 0 ⇒ refusal.Unavailable
    ∷ nat_le lease_limit b.lending.granted ⇒ refusal.Limit
    ∷ []

abbrev pub next_lease : Book → ℕ → LeaseParts
next_lease b wanted =
    let place : ℕ = place_of b.geometry.buffer b.oldest in
    lease_on b.geometry.tag b.lending place (area_length b.geometry.buffer wanted b.unread place)

pub record Begun (b : Book) (wanted : ℕ) (r : Answer) (b' : Book) : Type 0 where
  pub answer : r ≡ Ok (Granted (next_lease b wanted))
  pub stream : b' ≡ lends b (with_out b.lending (next_lease b wanted))

abbrev pub Begins : Book → ℕ → Answer → Book → Type 0
Begins b wanted r b' = Unless (no_begin b wanted) r b b' (Begun b wanted r b')

-- ---- copy

abbrev pub no_access : Book → List Frame → LeaseParts → ℕ → ℕ → List Reason
no_access b m l position count =
    not (length m == b.geometry.buffer) ⇒ refusal.Memory
    ∷ not (holds b.lending.out l) ⇒ refusal.WrongLease
    ∷ refusing (decides b call.Access)
    ∷ ltb l.length (position + count) ⇒ refusal.Beyond
    ∷ []

pub record Copied (m : List Frame) (place : ℕ) (host : List Frame) (r : Answer) (host' : List Frame) : Type 0 where
  pub answer : r ≡ Ok Done
  pub memory : host' ≡ area m place (length host)

-- the host's memory is filled with frames of the area
abbrev pub Copies : Book → List Frame → LeaseParts → ℕ → List Frame → Answer → List Frame → Type 0
Copies b m l position host r host' = Unless (no_access b m l position (length host)) r host host' (Copied m (l.place + position) host r host')

-- ---- commit

-- a draining stream is set up again once nothing is unread
abbrev pub drained : Book → ℕ → State
drained b n = cond (among b.state (Draining ∷ []) && b.unread - n == 0) Setup b.state

abbrev pub read : Book → ℕ → Book
read b n =
    record { geometry = b.geometry; state = drained b n; given_up = b.given_up; oldest = b.oldest + n; unread = b.unread - n; lending = with_none b.lending; ledger = b.ledger }

pub record Committed (b : Book) (n : ℕ) (r : Answer) (b' : Book) : Type 0 where
  pub answer : r ≡ Ok Done
  pub stream : b' ≡ read b n

-- refused by 10 or 4 it changes nothing; refused by 5 or 11 it ends the lease all the same
abbrev pub Commits : Book → LeaseParts → ℕ → Answer → Book → Type 0
Commits b l n r b' =
    Unless (not (holds b.lending.out l) ⇒ refusal.WrongLease ∷ among b.state (Setup ∷ []) ⇒ refusal.State ∷ []) r b b'
    (Unless (among b.state (Xrun ∷ []) ⇒ refusal.Xrun ∷ ltb l.length n ⇒ refusal.Beyond ∷ []) r (lends b (with_none b.lending)) b' (Committed b n r b'))

-- ---- start, pause, resume, drain

pub record Turned (b : Book) (c : CallKind) (r : Answer) (b' : Book) : Type 0 where
  pub answer : r ≡ Ok Done
  pub stream : b' ≡ turned b (entered (decides b c) b.state)

abbrev pub Turns : Book → CallKind → Answer → Book → Type 0
Turns b c r b' = Unless (refusing (decides b c) ∷ []) r b b' (Turned b c r b')

abbrev pub Drains : Book → Answer → Book → Type 0
Drains b r b' = Unless (is_some b.lending.out ⇒ refusal.LeaseOut ∷ refusing (decides b call.Drain) ∷ []) r b b' (Turned b call.Drain r b')

-- ---- drop and prepare

abbrev pub loss : EntryKind → Book → Option Entry
loss k b = cond (b.unread == 0) None (Some (record { kind = k; first = b.oldest; lost = b.unread; missed = 0; cause = 0; depth = 0 }))

abbrev pub emptied : Book → State → Option Entry → Book
emptied b s due =
    record { geometry = b.geometry; state = s; given_up = b.given_up; oldest = b.given_up; unread = 0; lending = with_none b.lending; ledger = with_noted b.ledger due }

abbrev pub no_emptying : Book → CallKind → List Entry → List Reason
no_emptying b c es =
    not (length es == b.geometry.ledger) ⇒ refusal.Memory
    ∷ refusing (decides b c)
    ∷ (is_full b.ledger && nat_lt 0 b.unread) ⇒ refusal.LedgerFull
    ∷ []

pub record Emptied (b : Book) (c : CallKind) (due : Option Entry) (es : List Entry) (r : Answer) (b' : Book) (es' : List Entry) : Type 0 where
  pub answer : r ≡ Ok Done
  pub stream : b' ≡ emptied b (entered (decides b c) b.state) due
  pub ledger : es' ≡ noted b.ledger es due

abbrev pub Empties : EntryKind → CallKind → Book → List Entry → Answer → Book → List Entry → Type 0
Empties k c b es r b' es' = Unless {T = Book × List Entry} (no_emptying b c es) r (b, es) (b', es') (Emptied b c (loss k b) es r b' es')

abbrev pub Drops : Book → List Entry → Answer → Book → List Entry → Type 0
Drops = Empties kind.Dropped call.Drop

abbrev pub Prepares : Book → List Entry → Answer → Book → List Entry → Type 0
Prepares = Empties kind.Prepared call.Prepare

-- ---- take

abbrev pub noted_as : Book → LedgerNumbers → Book
noted_as b n =
    record { geometry = b.geometry; state = b.state; given_up = b.given_up; oldest = b.oldest; unread = b.unread; lending = b.lending; ledger = n }

pub record TookEntry (b : Book) (es : List Entry) (r : Answer) (b' : Book) : Type 0 where
  pub answer : r ≡ Ok (Taken (oldest_of b.ledger es))
  pub stream : b' ≡ noted_as b (with_taken b.ledger)

abbrev pub Takes : Book → List Entry → Answer → Book → Type 0
Takes b es r b' = Unless (not (length es == b.geometry.ledger) ⇒ refusal.Memory ∷ []) r b b' (TookEntry b es r b')

-- ---- tick

abbrev pub stored : ℕ → List Frame → ℕ → List Frame → List Frame
stored s m n [] = m
stored s m n (f ∷ fs) = stored s (slice_set m (n % s) f) (suc n) fs

abbrev pub kept : Book → List Frame → List Frame
kept b came = take (room b) came

abbrev pub lost : Book → List Frame → List Frame
lost b came = drop (room b) came

-- the ring is full with n frames more
abbrev pub filled : Book → ℕ → Bool
filled b n = b.unread + n == b.geometry.buffer

abbrev pub overrun : Book → ℕ → ℕ → Option Entry
overrun b n missing =
    cond (filled b n) (Some (record { kind = kind.Overrun; first = b.oldest + b.unread + n; lost = missing; missed = 0; cause = 0; depth = 0 })) None

abbrev pub after_tick : Book → ℕ → State
after_tick b n = cond (filled b n) Xrun b.state

abbrev pub grown : Book → ℕ → ℕ → Book
grown b n missing =
    record { geometry = b.geometry; state = after_tick b n; given_up = b.given_up + (n + missing); oldest = b.oldest; unread = b.unread + n; lending = b.lending; ledger = with_noted b.ledger (overrun b n missing) }

-- the source gave up as many frames as were asked for and as it had; those that the ring has room for were stored
pub record Captured {R : Type 0} (p : SourcePoints R) (b : Book) (source : R) (m : List Frame) (es : List Entry) (k : ℕ) (r : Answer) (b' : Book) (source' : R) (m' : List Frame) (es' : List Entry) : Type 0 where
  pub came : List Frame
  pub came_is : came ≡ take k (p.coming source)
  pub given : Gives p source came source'
  pub answer : r ≡ Ok (Ticked (record { frames = length (kept b came); state = after_tick b (length (kept b came)); periods = periods b.geometry.period (b.oldest + b.unread) (length (kept b came)) }))
  pub stream : b' ≡ grown b (length (kept b came)) (length (lost b came))
  pub memory : m' ≡ stored b.geometry.buffer m (b.oldest + b.unread) (kept b came)
  pub ledger : es' ≡ noted b.ledger es (overrun b (length (kept b came)) (length (lost b came)))

abbrev pub no_moving : Book → ℕ → List Reason
no_moving b k = ltb frame_limit (b.given_up + k) ⇒ refusal.Limit ∷ is_full b.ledger ⇒ refusal.LedgerFull ∷ []

abbrev pub Ticks : {R : Type 0} → SourcePoints R → Book → R → List Frame → List Entry → ℕ → Answer → Book → R → List Frame → List Entry → Type 0
Ticks {R} p b source m es k r b' source' m' es' =
    Unless {T = Book × R × List Frame × List Entry}
    (not (length m == b.geometry.buffer) ⇒ refusal.Memory ∷ not (length es == b.geometry.ledger) ⇒ refusal.Memory ∷ [])
    r (b, source, m, es) (b', source', m', es')
    (If (moves (decides b call.Tick))
    (Unless {T = Book × R × List Frame × List Entry} (no_moving b k) r (b, source, m, es) (b', source', m', es') (Captured p b source m es k r b' source' m' es'))
    (Still {T = Book × R × List Frame × List Entry} b.state r (b, source, m, es) (b', source', m', es')))
