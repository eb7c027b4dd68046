-- Capture: each call leaves a state that means what it says, and so meets a lease in no state that refuses it by 4. Assumes nothing.
use Rattle.std.proofs.Common.{◌≡◌, ℕ, ◌+◌, ◌-◌, ◌<◌, ◌≤◌, true, false, cond, not, ◌&&◌, eqb, ltb, ◌≢◌, List, [], ◌∷◌, length, is_some, None, Option, refl, ap, inl, inr, arith, Ok, Err}
use Rattle.std.proofs.lemmas.List.{length-take}
use Rattle.std.proofs.lemmas.Bool.{both_ways, cond_both, eqb-true, eqb-false}
use Rattle.codes.specs.declared.entry_kind.EntryKind.{EntryKind}
use Rattle.codes.specs.declared.entry_kind.EntryKind.TheVariants as kinds
use Rattle.codes.specs.declared.refusal.Refusal.TheVariants as refusal
use Rattle.codes.specs.declared.state.State.{State}
use Rattle.codes.specs.declared.state.State.TheVariants.{Setup, Prepared, Running, Xrun, Draining, Paused}
use Rattle.frames.specs.declared.frame.Frame.{Frame}
use Rattle.sources.specs.Source.{SourcePoints}
use Rattle.calls.specs.Answers.{Answer}
use Rattle.calls.specs.declared.call.Given.TheVariants.{Own, Another}
use Rattle.calls.specs.declared.call.CaptureCall.{CaptureCall}
use Rattle.calls.specs.declared.call.CaptureCall.TheVariants.{Begin, Copy, Commit, Start, Tick, Pause, Resume, Drain, Drop, Prepare, Take}
use Rattle.calls.specs.declared.entry.Entry.{Entry}
use Rattle.calls.specs.declared.lease_parts.LeaseParts.{LeaseParts}
use Rattle.calls.specs.declared.verdict.CallKind.{CallKind}
use Rattle.calls.specs.declared.verdict.CallKind.TheVariants as call
use Rattle.calls.specs.declared.verdict.Effect.TheVariants.{Stay, Enter}
use Rattle.calls.specs.Lending.{holds}
use Rattle.account.specs.Areas.{with_none}
use Rattle.account.specs.Capture.{decides, Committed, lends, no_begin, no_access, no_emptying, no_moving, kept, Begins, Copies, Commits, Turned, Turns, Drains, Empties, Takes, Captured}
use Rattle.account.specs.CaptureBook.{Book, room}
use Rattle.account.specs.CaptureHistory.{Situation, Step, kind_of}
use Rattle.account.specs.Meanings.{CaptureMeans}
use Rattle.account.specs.Rules.{◌⇒◌}
use Rattle.account.specs.States.{among, capture_decides, is_refusal, moves, refusing, entered, names_lease}
use Rattle.account.proofs.ByTable.{refusing_unless, ByVerdict, capture_by_table}
use Rattle.account.proofs.Allowed.{obeyed_in, moving_in}
use Rattle.account.proofs.Lent.{none_out}
use Rattle.account.proofs.Refusals.{cases_if, holds_after}
use Rattle.account.proofs.Spared.{differ, refused_otherwise, done_is_no_refusal, spared, MetRightly, access_spared, commit_spared, ending_spared}

-- ---- what a call makes of each state that allows it

-- a lease goes out only where a frame is unread, and so where the state says nothing of it
lent_means : (s : State) (w size : ℕ) (out out' : Option LeaseParts) → eqb w 0 ≡ false → is_refusal (capture_decides s call.Begin w) ≡ false → CaptureMeans s w size out → CaptureMeans s w size out'
lent_means s w size out out' some =
    obeyed_in (λ s. CaptureMeans s w size out → CaptureMeans s w size out') (Prepared ∷ Running ∷ Draining ∷ Paused ∷ []) (Ok Stay)
    (λ _. (λ m. absurd (eqb-false w 0 some m.0), (λ m. m, (λ m. m, (λ m. m, tt))))) s

-- and may end in every state
ended_means : (s : State) (w size : ℕ) (out : Option LeaseParts) → CaptureMeans s w size out → CaptureMeans s w size None
ended_means Setup w size out m = (m.0, refl)
ended_means Prepared w size out m = (m.0, refl)
ended_means Running w size out m = m
ended_means Xrun w size out m = m
ended_means Draining w size out m = m
ended_means Paused w size out m = m

-- a draining stream is set up again once nothing is unread
abbrev finished : State → ℕ → State
finished s w = cond (among s (Draining ∷ []) && eqb w 0) Setup s

committed_means : (s : State) (w size n : ℕ) (out : Option LeaseParts) → is_refusal (capture_decides s call.Commit w) ≡ false → CaptureMeans s w size out → CaptureMeans (finished s (w - n)) (w - n) size None
committed_means s w size n out =
    obeyed_in (λ s. CaptureMeans s w size out → CaptureMeans (finished s (w - n)) (w - n) size None) (Prepared ∷ Running ∷ Draining ∷ Paused ∷ []) (Ok Stay)
    (λ _. (
      λ m. (omega (arith, m.0), refl),
      (
        λ m. omega arith,
        (
          λ m. cond_both (eqb (w - n) 0) Setup Draining (λ s. CaptureMeans s (w - n) size None) (λ none. (eqb-true (w - n) 0 none, refl)) (λ some. omega (arith, eqb-false (w - n) 0 some)),
          (λ m. omega arith, tt),
        ),
      ),
    )) s

-- what a call that turns the state to another must keep
abbrev TurnsRightly : CallKind → Option LeaseParts → Type 0
TurnsRightly k out = (s : State) (w size : ℕ) → 0 < size → is_refusal (capture_decides s k w) ≡ false → CaptureMeans s w size out → CaptureMeans (entered (capture_decides s k w) s) w size out

start_means : (out : Option LeaseParts) → TurnsRightly call.Start out
start_means out s w size sized =
    obeyed_in (λ s. CaptureMeans s w size out → CaptureMeans (entered (capture_decides s call.Start w) s) w size out) (Prepared ∷ []) (Ok (Enter Running)) (λ _. (λ m. omega (arith, m.0), tt)) s

pause_means : (out : Option LeaseParts) → TurnsRightly call.Pause out
pause_means out s w size sized = obeyed_in (λ s. CaptureMeans s w size out → CaptureMeans (entered (capture_decides s call.Pause w) s) w size out) (Running ∷ []) (Ok (Enter Paused)) (λ _. (λ m. m, tt)) s

resume_means : (out : Option LeaseParts) → TurnsRightly call.Resume out
resume_means out s w size sized = obeyed_in (λ s. CaptureMeans s w size out → CaptureMeans (entered (capture_decides s call.Resume w) s) w size out) (Paused ∷ []) (Ok (Enter Running)) (λ _. (λ m. m, tt)) s

-- with no lease out, what is unread is left to read, and the stream is set up again where nothing is
drain_means : TurnsRightly call.Drain None
drain_means s w size sized =
    let drains : CaptureMeans (cond (eqb w 0) Setup Draining) w size None =
    cond_both (eqb w 0) Setup Draining (λ s. CaptureMeans s w size None) (λ none. (eqb-true w 0 none, refl)) (λ some. omega (arith, eqb-false w 0 some)) in
    obeyed_in (λ s. CaptureMeans s w size None → CaptureMeans (entered (capture_decides s call.Drain w) s) w size None) (Prepared ∷ Running ∷ []) (Ok (Enter (cond (eqb w 0) Setup Draining)))
    (λ _. (λ m. drains, (λ m. drains, tt))) s

-- what a call that throws away all that is unread must bring about
abbrev EmptiesRightly : CallKind → Type 0
EmptiesRightly k = (s : State) (w size : ℕ) → is_refusal (capture_decides s k w) ≡ false → CaptureMeans (entered (capture_decides s k w) s) 0 size None

drop_means : EmptiesRightly call.Drop
drop_means s w size =
    let empty : CaptureMeans Setup 0 size None = (refl, refl) in
    obeyed_in (λ s. CaptureMeans (entered (capture_decides s call.Drop w) s) 0 size None) (Prepared ∷ Running ∷ Xrun ∷ Draining ∷ Paused ∷ []) (Ok (Enter Setup)) (λ _. (empty, (empty, (empty, (empty, (empty, tt)))))) s

prepare_means : EmptiesRightly call.Prepare
prepare_means s w size =
    let empty : CaptureMeans Prepared 0 size None = (refl, refl) in
    obeyed_in (λ s. CaptureMeans (entered (capture_decides s call.Prepare w) s) 0 size None) (Setup ∷ Xrun ∷ []) (Ok (Enter Prepared)) (λ _. (empty, (empty, tt))) s

-- a full ring is an overrun
ticked_means : (s : State) (w size n : ℕ) (out : Option LeaseParts) → n ≤ size - w → moves (capture_decides s call.Tick w) ≡ true → CaptureMeans s w size out → CaptureMeans (cond (eqb (w + n) size) Xrun s) (w + n) size out
ticked_means s w size n out there =
    moving_in (λ s. CaptureMeans s w size out → CaptureMeans (cond (eqb (w + n) size) Xrun s) (w + n) size out) (Running ∷ [])
    (λ m. cond_both (eqb (w + n) size) Xrun Running (λ s. CaptureMeans s (w + n) size out) (eqb-true (w + n) size) (λ left. omega (arith, eqb-false (w + n) size left)), tt) s

-- ---- the same of the stream's numbers

-- the state of these numbers means what it says
abbrev pub Means : Book → Type 0
Means b = CaptureMeans b.state b.unread b.geometry.buffer b.lending.out

module _ (b b' : Book) (r : Answer) (m : Means b) where
  means_begins : (wanted : ℕ) → Begins b wanted r b' → Means b'
  means_begins wanted went = holds_after Means (no_begin b wanted) r went m (λ none done. rw done.stream (lent_means b.state b.unread _ _ _ none.1.1.1.0 none.1.0 m))

  abbrev CommitsByTable : LeaseParts → ℕ → Type 0
  CommitsByTable l n =
      ByVerdict b.state (decides b call.Commit) (not (holds b.lending.out l)) r b (lends b (with_none b.lending)) b' (ltb l.length n ⇒ refusal.Beyond ∷ []) (Committed b n r b')

  by_table : (l : LeaseParts) (n : ℕ) → Commits b l n r b' → CommitsByTable l n
  by_table l n went =
      capture_by_table b.unread (not (holds b.lending.out l)) r b (lends b (with_none b.lending)) b' (ltb l.length n ⇒ refusal.Beyond ∷ []) (Committed b n r b') b.state went

  means_commits : (l : LeaseParts) (n : ℕ) → Commits b l n r b' → Means b'
  means_commits l n went =
      holds_after Means (not (holds b.lending.out l) ⇒ refusal.WrongLease ∷ refusing_unless (among b.state (Xrun ∷ [])) (decides b call.Commit) ∷ []) r (by_table l n went) m
      (λ _ further. holds_after Means (refusing (decides b call.Commit) ∷ ltb l.length n ⇒ refusal.Beyond ∷ []) r further (ended_means b.state b.unread _ _ m)
      (λ none done. rw done.stream (committed_means b.state b.unread _ n _ none.0 m)))

  means_turned : (k : CallKind) → TurnsRightly k b.lending.out → is_refusal (decides b k) ≡ false → Turned b k r b' → Means b'
  means_turned k rightly goes done = rw done.stream (rightly b.state b.unread _ (omega (arith, b.geometry.lawful.0.0)) goes m)

  means_turns : (k : CallKind) → TurnsRightly k b.lending.out → Turns b k r b' → Means b'
  means_turns k rightly went = holds_after Means (refusing (decides b k) ∷ []) r went m (λ none done. means_turned k rightly none.0 done)

  means_drains : Drains b r b' → Means b'
  means_drains went =
      holds_after Means (is_some b.lending.out ⇒ refusal.LeaseOut ∷ refusing (decides b call.Drain) ∷ []) r went m
      (λ none done. means_turned call.Drain (rw (none_out _ none.0) drain_means) none.1.0 done)

  means_empties : (e : EntryKind) (k : CallKind) → EmptiesRightly k → (es es' : List Entry) → Empties e k b es r b' es' → Means b'
  means_empties e k rightly es es' went =
      holds_after {T = Book × List Entry} (λ x. Means x.0) (no_emptying b k es) r went m (λ none done. rw done.stream (rightly b.state b.unread _ none.1.0))

  means_takes : (es : List Entry) → Takes b es r b' → Means b'
  means_takes es went = holds_after Means (not (eqb (length es) b.geometry.ledger) ⇒ refusal.Memory ∷ []) r went m (λ _ done. rw done.stream m)

  means_captured : {R : Type 0} (p : SourcePoints R) (source source' : R) (frames frames' : List Frame) (es es' : List Entry) (k : ℕ) → moves (decides b call.Tick) ≡ true → Captured p b source frames es k r b' source' frames' es' → Means b'
  means_captured p source source' frames frames' es es' k moving done =
      rw done.stream (ticked_means b.state b.unread _ (length (kept b done.came)) _ (omega (arith, length-take (room b) done.came)) moving m)

-- ---- the same of a situation

module _ {R : Type 0} (p : SourcePoints R) (t u : Situation R) (r : Answer) (m : Means t.stream) where
  pub means_step : (c : CaptureCall) → Step p t c r u → Means u.stream
  means_step (Begin wanted) step = means_begins t.stream u.stream r m wanted step.0
  means_step (Copy Own l j x n) step = rw step.2.stream_same m
  means_step (Copy Another l j x n) step = rw step.1 m
  means_step (Commit l n) step = means_commits t.stream u.stream r m l n step.0
  means_step Start step = means_turns t.stream u.stream r m call.Start (start_means _) step.0
  means_step (Tick Own Own k) step =
      holds_after {T = Book × R × List Frame × List Entry} (λ x. Means x.0) (not (eqb (length t.memory) t.stream.geometry.buffer) ⇒ refusal.Memory ∷ not (eqb (length t.ledger) t.stream.geometry.ledger) ⇒ refusal.Memory ∷ []) r step.0 m
      (λ _ on. elim (cases_if (moves (decides t.stream call.Tick)) on) [
        | inl moving ↦
            holds_after {T = Book × R × List Frame × List Entry} (λ x. Means x.0) (no_moving t.stream k) r moving.1 m
            (λ _ done. means_captured t.stream u.stream r m p t.source u.source t.memory u.memory t.ledger u.ledger k moving.0 done)
        | inr still ↦ rw (ap (λ x. x.0) still.1.same) m
      ])
  means_step (Tick Own Another k) step = rw step.1 m
  means_step (Tick Another g k) step = rw step.1 m
  means_step Pause step = means_turns t.stream u.stream r m call.Pause (pause_means _) step.0
  means_step Resume step = means_turns t.stream u.stream r m call.Resume (resume_means _) step.0
  means_step Drain step = means_drains t.stream u.stream r m step.0
  means_step (Drop Own) step = means_empties t.stream u.stream r m kinds.Dropped call.Drop drop_means t.ledger u.ledger step.0
  means_step (Drop Another) step = rw step.1 m
  means_step (Prepare Own) step = means_empties t.stream u.stream r m kinds.Prepared call.Prepare prepare_means t.ledger u.ledger step.0
  means_step (Prepare Another) step = rw step.1 m
  means_step (Take Own) step = means_takes t.stream u.stream r m t.ledger step.0
  means_step (Take Another) step = rw step.1 m

-- ---- a call that names the lease that is out is not refused by 4

-- a lease is out in no state that refuses it, but in XRUN
met_rightly : (s : State) (w size : ℕ) (out : Option LeaseParts) (l : LeaseParts) → CaptureMeans s w size out → MetRightly (not (holds out l)) (capture_decides s call.Access w)
met_rightly Setup w size out l m held e = absurd (both_ways true (rw m.1 at held) refl)
met_rightly Prepared w size out l m held e = absurd (both_ways false refl e)
met_rightly Running w size out l m held e = absurd (both_ways false refl e)
met_rightly Xrun w size out l m held e = differ refusal.Xrun refusal.State refl
met_rightly Draining w size out l m held e = absurd (both_ways false refl e)
met_rightly Paused w size out l m held e = absurd (both_ways false refl e)

module _ {R : Type 0} (p : SourcePoints R) (t u : Situation R) (r : Answer) (m : Means t.stream) where
  rightly : (l : LeaseParts) → MetRightly (not (holds t.stream.lending.out l)) (decides t.stream call.Access)
  rightly l = met_rightly t.stream.state t.stream.unread _ _ l m

  copies : (l : LeaseParts) (j : ℕ) (host host' : List Frame) → Copies t.stream t.memory l j host r host' → r ≢ Err refusal.State
  copies l j host host' went =
      spared (no_access t.stream t.memory l j (length host)) refusal.State r host host' (access_spared _ _ _ _ (rightly l)) went (λ _ done. done_is_no_refusal r refusal.State done.answer)

  commits : (l : LeaseParts) (n : ℕ) → Commits t.stream l n r u.stream → r ≢ Err refusal.State
  commits l n went =
      let b = t.stream in
      spared (not (holds b.lending.out l) ⇒ refusal.WrongLease ∷ refusing_unless (among b.state (Xrun ∷ [])) (decides b call.Commit) ∷ []) refusal.State r b u.stream (commit_spared _ _ _ (rightly l)) (by_table b u.stream r m l n went)
      (λ none further. spared (refusing (decides b call.Commit) ∷ ltb l.length n ⇒ refusal.Beyond ∷ []) refusal.State r (lends b (with_none b.lending)) u.stream (ending_spared _ _ (rightly l none.0)) further
      (λ _ done. done_is_no_refusal r refusal.State done.answer))

  pub no_wrong_state : (c : CaptureCall) → Step p t c r u → names_lease (kind_of c) ≡ true → r ≢ Err refusal.State
  no_wrong_state (Begin wanted) step named = absurd (both_ways false refl named)
  no_wrong_state (Copy Own l j x n) step named = copies l j _ _ step.1
  no_wrong_state (Copy Another l j x n) step named = refused_otherwise r refusal.Memory refusal.State step.0 (differ refusal.Memory refusal.State refl)
  no_wrong_state (Commit l n) step named = commits l n step.0
  no_wrong_state Start step named = absurd (both_ways false refl named)
  no_wrong_state (Tick g e k) step named = absurd (both_ways false refl named)
  no_wrong_state Pause step named = absurd (both_ways false refl named)
  no_wrong_state Resume step named = absurd (both_ways false refl named)
  no_wrong_state Drain step named = absurd (both_ways false refl named)
  no_wrong_state (Drop g) step named = absurd (both_ways false refl named)
  no_wrong_state (Prepare g) step named = absurd (both_ways false refl named)
  no_wrong_state (Take g) step named = absurd (both_ways false refl named)
