-- The rule of each call of a playback stream: its refusals in order, and what an obeyed call does. Each leaves all that it
-- does not speak of as it was.
--   Begins, Puts, Mixes, Commits, Turns, Drains, Drops, Prepares, Takes, Ticks   the rules
--   next_lease b wanted   the lease that begin grants: from the place of the next frame, as long as wanted, as far as places
--                         are free and the ring goes on
--   loss kind b           the entry for frames that are thrown away, if any wait
--   after_tick, tick_entry   the state after a tick of k of which `went` went, and the entry that is due, if one is
-- Assumes nothing.
use Rattle.std.specs.Prelude.{◌≡◌, ℕ, ◌+◌, ◌-◌, ◌/◌, ◌<◌, ◌≤◌, cond, not, ◌&&◌, ltb, leb, List, [], ◌∷◌, length, take, is_some, Some, None, Option, ◌==◌, nat_eq, nat_le, nat_lt, Ok}
use Rattle.std.proofs.Math.Seq.{paste}
use Rattle.codes.specs.declared.entry_kind.EntryKind.{EntryKind}
use Rattle.codes.specs.declared.entry_kind.EntryKind.TheVariants as kind
use Rattle.codes.specs.declared.refusal.Refusal.TheVariants as refusal
use Rattle.codes.specs.declared.state.State.{State}
use Rattle.codes.specs.declared.state.State.TheVariants.{Setup, Prepared, Running, Xrun, Draining}
use Rattle.frames.specs.declared.frame.Frame.{Frame}
use Rattle.frames.specs.Samples.{mixed_all}
use Rattle.geometry.specs.Pointers.{area_length, place_of}
use Rattle.sinks.specs.declared.stop.Stop.{Stop}
use Rattle.sinks.specs.Sink.{SinkPoints, Offers, Heals}
use Rattle.calls.specs.Answers.{Answer}
use Rattle.calls.specs.declared.answer.Outcome.TheVariants.{Done, Granted, Ticked, Taken}
use Rattle.calls.specs.declared.entry.Entry.{Entry}
use Rattle.calls.specs.declared.lease_parts.LeaseParts.{LeaseParts}
use Rattle.calls.specs.declared.lease_parts.Lending.{Lending}
use Rattle.calls.specs.declared.verdict.CallKind.{CallKind}
use Rattle.calls.specs.declared.verdict.CallKind.TheVariants as call
use Rattle.calls.specs.Answers.{Verdict}
use Rattle.calls.specs.Lending.{holds}
use Rattle.account.specs.Areas.{area, lease_on, with_out, with_none}
use Rattle.account.specs.Ledgers.{LedgerNumbers, is_full, noted, with_noted, with_taken, oldest_of}
use Rattle.account.specs.Limits.{frame_limit, lease_limit}
use Rattle.account.specs.PlaybackBook.{Book, waits, free, waiting_frames}
use Rattle.account.specs.Rules.{Reason, ◌⇒◌, If, Unless}
use Rattle.account.specs.States.{among, playback_decides, refusing, moves, entered}

abbrev pub decides : Book → CallKind → Verdict
decides b c = playback_decides b.state c (waits b)

-- ---- what changes

abbrev pub lends : Book → Lending → Book
lends b l = record { geometry = b.geometry; state = b.state; committed = b.committed; oldest = b.oldest; lending = l; ledger = b.ledger }

abbrev pub turned : Book → State → Book
turned b s = record { geometry = b.geometry; state = s; committed = b.committed; oldest = b.oldest; lending = b.lending; ledger = b.ledger }

-- ---- begin

abbrev pub no_begin : Book → ℕ → List Reason
no_begin b wanted =
    is_some b.lending.out ⇒ refusal.LeaseOut
    ∷ refusing (decides b call.Begin)
    ∷ nat_eq wanted 0 ⇒ refusal.Zero
    ∷ nat_eq (free b) 0 ⇒ refusal.Unavailable
    ∷ leb lease_limit b.lending.granted ⇒ refusal.Limit
    ∷ []

abbrev pub next_lease : Book → ℕ → LeaseParts
next_lease b wanted =
    let place : ℕ = place_of b.geometry.buffer b.committed in
    lease_on b.geometry.tag b.lending place (area_length b.geometry.buffer wanted (free b) place)

pub record Begun (b : Book) (wanted : ℕ) (r : Answer) (b' : Book) : Type 0 where
  pub answer : r ≡ Ok (Granted (next_lease b wanted))
  pub stream : b' ≡ lends b (with_out b.lending (next_lease b wanted))

abbrev pub Begins : Book → ℕ → Answer → Book → Type 0
Begins b wanted r b' = Unless (no_begin b wanted) r b b' (Begun b wanted r b')

-- ---- put and mix

abbrev pub no_access : Book → List Frame → LeaseParts → ℕ → ℕ → List Reason
no_access b m l position count =
    not (length m == b.geometry.buffer) ⇒ refusal.Memory
    ∷ not (holds b.lending.out l) ⇒ refusal.WrongLease
    ∷ refusing (decides b call.Access)
    ∷ ltb l.length (position + count) ⇒ refusal.Beyond
    ∷ []

pub record Written (m : List Frame) (place : ℕ) (fs : List Frame) (r : Answer) (m' : List Frame) : Type 0 where
  pub answer : r ≡ Ok Done
  pub memory : m' ≡ paste m place fs (length fs)

abbrev pub Puts : Book → List Frame → LeaseParts → ℕ → List Frame → Answer → List Frame → Type 0
Puts b m l position fs r m' = Unless (no_access b m l position (length fs)) r m m' (Written m (l.place + position) fs r m')

abbrev pub Mixes : Book → List Frame → LeaseParts → ℕ → List Frame → Answer → List Frame → Type 0
Mixes b m l position fs r m' =
    Unless (no_access b m l position (length fs)) r m m'
    (Written m (l.place + position) (mixed_all (area m (l.place + position) (length fs)) fs) r m')

-- ---- commit

-- once the waiting frames reach the start threshold, a prepared stream runs
abbrev pub started : Book → ℕ → State
started b n = cond (among b.state (Prepared ∷ []) && nat_le b.geometry.threshold (waits b + n)) Running b.state

abbrev pub moved : Book → ℕ → Book
moved b n =
    record { geometry = b.geometry; state = started b n; committed = b.committed + n; oldest = b.oldest; lending = with_none b.lending; ledger = b.ledger }

pub record Committed (b : Book) (n : ℕ) (r : Answer) (b' : Book) : Type 0 where
  pub answer : r ≡ Ok Done
  pub stream : b' ≡ moved b n

-- refused by 10 or 4 it changes nothing; refused by 5, 11 or 13 it ends the lease all the same
abbrev pub Commits : Book → LeaseParts → ℕ → Answer → Book → Type 0
Commits b l n r b' =
    Unless (not (holds b.lending.out l) ⇒ refusal.WrongLease ∷ among b.state (Setup ∷ Draining ∷ []) ⇒ refusal.State ∷ []) r b b'
    (Unless
    (among b.state (Xrun ∷ []) ⇒ refusal.Xrun ∷ ltb l.length n ⇒ refusal.Beyond ∷ ltb frame_limit (b.committed + n) ⇒ refusal.Limit ∷ [])
    r (lends b (with_none b.lending)) b'
    (Committed b n r b'))

-- ---- start, pause, resume, drain

pub record Turned (b : Book) (c : CallKind) (r : Answer) (b' : Book) : Type 0 where
  pub answer : r ≡ Ok Done
  pub stream : b' ≡ turned b (entered (decides b c) b.state)

abbrev pub Turns : Book → CallKind → Answer → Book → Type 0
Turns b c r b' = Unless (refusing (decides b c) ∷ []) r b b' (Turned b c r b')

abbrev pub Drains : Book → Answer → Book → Type 0
Drains b r b' = Unless (is_some b.lending.out ⇒ refusal.LeaseOut ∷ refusing (decides b call.Drain) ∷ []) r b b' (Turned b call.Drain r b')

-- ---- drop and prepare

abbrev pub loss : EntryKind → Book → Option Entry
loss k b = cond (waits b == 0) None (Some (record { kind = k; first = b.oldest; lost = waits b; missed = 0; cause = 0; depth = 0 }))

abbrev pub emptied : Book → State → Option Entry → Book
emptied b s due =
    record { geometry = b.geometry; state = s; committed = b.committed; oldest = b.committed; lending = with_none b.lending; ledger = with_noted b.ledger due }

abbrev pub no_emptying : Book → CallKind → List Entry → List Reason
no_emptying b c es =
    not (length es == b.geometry.ledger) ⇒ refusal.Memory
    ∷ refusing (decides b c)
    ∷ (is_full b.ledger && nat_lt 0 (waits b)) ⇒ refusal.LedgerFull
    ∷ []

pub record Emptied (b : Book) (c : CallKind) (due : Option Entry) (es : List Entry) (r : Answer) (b' : Book) (es' : List Entry) : Type 0 where
  pub answer : r ≡ Ok Done
  pub stream : b' ≡ emptied b (entered (decides b c) b.state) due
  pub ledger : es' ≡ noted b.ledger es due

abbrev pub Drops : Book → List Entry → Answer → Book → List Entry → Type 0
Drops b es r b' es' =
    Unless {T = Book × List Entry} (no_emptying b call.Drop es) r (b, es) (b', es') (Emptied b call.Drop (loss kind.Dropped b) es r b' es')

-- prepare heals the sink, and a refused one leaves it as it was
abbrev pub Prepares : {S : Type 0} → SinkPoints S → Book → S → List Entry → Answer → Book → S → List Entry → Type 0
Prepares {S} p b sink es r b' sink' es' =
    Unless {T = Book × S × List Entry} (no_emptying b call.Prepare es) r (b, sink, es) (b', sink', es')
    (Emptied b call.Prepare (loss kind.Prepared b) es r b' es' × Heals p sink sink')

-- ---- take

abbrev pub noted_as : Book → LedgerNumbers → Book
noted_as b n = record { geometry = b.geometry; state = b.state; committed = b.committed; oldest = b.oldest; lending = b.lending; ledger = n }

pub record TookEntry (b : Book) (es : List Entry) (r : Answer) (b' : Book) : Type 0 where
  pub answer : r ≡ Ok (Taken (oldest_of b.ledger es))
  pub stream : b' ≡ noted_as b (with_taken b.ledger)

abbrev pub Takes : Book → List Entry → Answer → Book → Type 0
Takes b es r b' = Unless (not (length es == b.geometry.ledger) ⇒ refusal.Memory ∷ []) r b b' (TookEntry b es r b')

-- ---- tick

abbrev pub after_tick : Book → ℕ → ℕ → State
after_tick b k went = cond (went == waits b) (cond (among b.state (Draining ∷ [])) Setup Xrun) (cond (nat_lt went k) Xrun b.state)

abbrev pub underrun : Book → ℕ → ℕ → Entry
underrun b k went = record { kind = kind.Underrun; first = b.committed; lost = 0; missed = k - went; cause = 0; depth = 0 }

abbrev pub sink_stop : Book → ℕ → ℕ → Stop → Entry
sink_stop b k went w = record { kind = kind.SinkStop; first = b.oldest + went; lost = 0; missed = k - went; cause = w.cause; depth = w.depth }

abbrev pub tick_entry : Book → ℕ → ℕ → Stop → Option Entry
tick_entry b k went w =
    cond (went == waits b) (cond (among b.state (Draining ∷ [])) None (Some (underrun b k went)))
    (cond (nat_lt went k) (Some (sink_stop b k went w)) None)

-- the periods that lie between a count of frames and one that is n further on
abbrev pub periods : ℕ → ℕ → ℕ → ℕ
periods period c n = (c + n) / period - c / period

abbrev pub advanced : Book → State → ℕ → Option Entry → Book
advanced b s went due =
    record { geometry = b.geometry; state = s; committed = b.committed; oldest = b.oldest + went; lending = b.lending; ledger = with_noted b.ledger due }

-- the oldest waiting frames were offered one by one, until k had gone, none waited or the allowance was 0
pub record Played {S : Type 0} (p : SinkPoints S) (b : Book) (sink : S) (m : List Frame) (es : List Entry) (k : ℕ) (r : Answer) (b' : Book) (sink' : S) (es' : List Entry) : Type 0 where
  pub went : ℕ
  pub asked : went ≤ k
  pub there : went ≤ waits b
  pub offered : Offers p sink (take went (waiting_frames b m)) sink'
  pub stopped : went < k → went < waits b → p.allowance sink' ≡ 0
  pub answer : r ≡ Ok (Ticked (record { frames = went; state = after_tick b k went; periods = periods b.geometry.period b.oldest went }))
  pub stream : b' ≡ advanced b (after_tick b k went) went (tick_entry b k went (p.stop sink'))
  pub ledger : es' ≡ noted b.ledger es (tick_entry b k went (p.stop sink'))

-- in a state that moves no frames nothing changes
pub record Still {T : Type 0} (s : State) (r : Answer) (t u : T) : Type 0 where
  pub answer : r ≡ Ok (Ticked (record { frames = 0; state = s; periods = 0 }))
  pub same : u ≡ t

abbrev pub Ticks : {S : Type 0} → SinkPoints S → Book → S → List Frame → List Entry → ℕ → Answer → Book → S → List Entry → Type 0
Ticks {S} p b sink m es k r b' sink' es' =
    Unless {T = Book × S × List Entry}
    (not (length m == b.geometry.buffer) ⇒ refusal.Memory ∷ not (length es == b.geometry.ledger) ⇒ refusal.Memory ∷ [])
    r (b, sink, es) (b', sink', es')
    (If (moves (decides b call.Tick))
    (Unless {T = Book × S × List Entry} (is_full b.ledger ⇒ refusal.LedgerFull ∷ []) r (b, sink, es) (b', sink', es') (Played p b sink m es k r b' sink' es'))
    (Still {T = Book × S × List Entry} b.state r (b, sink, es) (b', sink', es')))
