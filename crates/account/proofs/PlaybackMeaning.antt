-- Playback: each call leaves a state that means what it says, and so meets a lease in no state that refuses it by 4. Assumes nothing.
use Rattle.std.proofs.Common.{◌≡◌, ℕ, ◌+◌, ◌-◌, ◌≤◌, true, false, cond, not, ◌&&◌, eqb, ltb, leb, ◌≢◌, List, [], ◌∷◌, length, is_some, None, Option, refl, ap, inl, inr, arith, Ok, Err}
use Rattle.std.proofs.lemmas.Bool.{both_ways, cases_Bool, cond_both, eqb-true, eqb-false, leb-true, leb-false}
use Rattle.codes.specs.declared.refusal.Refusal.TheVariants as refusal
use Rattle.codes.specs.declared.state.State.{State}
use Rattle.codes.specs.declared.state.State.TheVariants.{Setup, Prepared, Running, Xrun, Draining, Paused}
use Rattle.frames.specs.declared.frame.Frame.{Frame}
use Rattle.sinks.specs.Sink.{SinkPoints}
use Rattle.calls.specs.Answers.{Answer}
use Rattle.calls.specs.declared.call.Given.TheVariants.{Own, Another}
use Rattle.calls.specs.declared.call.PlaybackCall.{PlaybackCall}
use Rattle.calls.specs.declared.call.PlaybackCall.TheVariants.{Begin, Put, Mix, Commit, Start, Tick, Pause, Resume, Drain, Drop, Prepare, Take}
use Rattle.calls.specs.declared.entry.Entry.{Entry}
use Rattle.calls.specs.declared.lease_parts.LeaseParts.{LeaseParts}
use Rattle.calls.specs.declared.verdict.CallKind.{CallKind}
use Rattle.calls.specs.declared.verdict.CallKind.TheVariants as call
use Rattle.calls.specs.declared.verdict.Effect.TheVariants.{Stay, Enter}
use Rattle.calls.specs.Lending.{holds}
use Rattle.account.specs.Areas.{with_none}
use Rattle.account.specs.Limits.{frame_limit}
use Rattle.account.specs.Meanings.{PlaybackMeans}
use Rattle.account.specs.Ledgers.{is_full}
use Rattle.account.specs.Playback.{decides, Committed, lends, no_begin, no_access, no_emptying, Begins, Commits, Turned, Turns, Drains, Emptied, Takes, Played, Written}
use Rattle.account.specs.PlaybackBook.{Book, waits}
use Rattle.account.specs.PlaybackHistory.{Situation, Step, kind_of}
use Rattle.account.specs.Rules.{◌⇒◌, Refuses, Unless}
use Rattle.account.specs.States.{among, playback_decides, is_refusal, moves, refusing, entered, names_lease}
use Rattle.account.proofs.ByTable.{refusing_unless, ByVerdict, playback_by_table}
use Rattle.account.proofs.Allowed.{obeyed_in, moving_in}
use Rattle.account.proofs.Lent.{none_out}
use Rattle.account.proofs.Refusals.{cases_if, holds_after}
use Rattle.account.proofs.Spared.{differ, refused_otherwise, done_is_no_refusal, spared, MetRightly, access_spared, commit_spared, limited_spared}

-- ---- what a call makes of each state that allows it

-- a lease goes out only where the state says nothing of it
lent_means : (s : State) (w th : ℕ) (out out' : Option LeaseParts) → is_refusal (playback_decides s call.Begin w) ≡ false → PlaybackMeans s w th out → PlaybackMeans s w th out'
lent_means s w th out out' = obeyed_in (λ s. PlaybackMeans s w th out → PlaybackMeans s w th out') (Prepared ∷ Running ∷ Paused ∷ []) (Ok Stay) (λ _. (λ m. m, (λ m. m, (λ m. m, tt)))) s

-- and may end in every state
ended_means : (s : State) (w th : ℕ) (out : Option LeaseParts) → PlaybackMeans s w th out → PlaybackMeans s w th None
ended_means Setup w th out m = (m.0, refl)
ended_means Prepared w th out m = m
ended_means Running w th out m = m
ended_means Xrun w th out m = m
ended_means Draining w th out m = (m.0, refl)
ended_means Paused w th out m = m

-- a prepared stream runs once enough wait
abbrev enough : State → ℕ → ℕ → State
enough s w th = cond (among s (Prepared ∷ []) && leb th w) Running s

committed_means : (s : State) (w th n : ℕ) (out : Option LeaseParts) → 1 ≤ th → is_refusal (playback_decides s call.Commit w) ≡ false → PlaybackMeans s w th out → PlaybackMeans (enough s (w + n) th) (w + n) th None
committed_means s w th n out some =
    obeyed_in (λ s. PlaybackMeans s w th out → PlaybackMeans (enough s (w + n) th) (w + n) th None) (Prepared ∷ Running ∷ Paused ∷ []) (Ok Stay)
    (λ _. (λ m. cond_both (leb th (w + n)) Running Prepared (λ s. PlaybackMeans s (w + n) th None) (λ e. omega (arith, leb-true th (w + n) e)) (leb-false th (w + n)), (λ m. omega arith, (λ m. omega arith, tt)))) s

-- what a call that turns the state to another must keep
abbrev TurnsRightly : CallKind → Option LeaseParts → Type 0
TurnsRightly k out = (s : State) (w th : ℕ) → is_refusal (playback_decides s k w) ≡ false → PlaybackMeans s w th out → PlaybackMeans (entered (playback_decides s k w) s) w th out

start_means : (out : Option LeaseParts) → TurnsRightly call.Start out
start_means out s w th =
    obeyed_in (λ s. PlaybackMeans s w th out → PlaybackMeans (entered (playback_decides s call.Start w) s) w th out) (Prepared ∷ []) (cond (eqb w 0) (Err refusal.NothingWaiting) (Ok (Enter Running)))
    (λ e. (λ m. elim (cases_Bool (eqb w 0)) [ inl none ↦ absurd (both_ways true (rw none at e) refl) | inr some ↦ rw some (omega (arith, eqb-false w 0 some)) ], tt)) s

pause_means : (out : Option LeaseParts) → TurnsRightly call.Pause out
pause_means out s w th = obeyed_in (λ s. PlaybackMeans s w th out → PlaybackMeans (entered (playback_decides s call.Pause w) s) w th out) (Running ∷ []) (Ok (Enter Paused)) (λ _. (λ m. m, tt)) s

resume_means : (out : Option LeaseParts) → TurnsRightly call.Resume out
resume_means out s w th = obeyed_in (λ s. PlaybackMeans s w th out → PlaybackMeans (entered (playback_decides s call.Resume w) s) w th out) (Paused ∷ []) (Ok (Enter Running)) (λ _. (λ m. m, tt)) s

-- with no lease out, the stream drains what waits, and is set up again where nothing does
drain_means : TurnsRightly call.Drain None
drain_means s w th =
    let drains : PlaybackMeans (cond (eqb w 0) Setup Draining) w th None =
    cond_both (eqb w 0) Setup Draining (λ s. PlaybackMeans s w th None) (λ none. (eqb-true w 0 none, refl)) (λ some. (omega (arith, eqb-false w 0 some), refl)) in
    obeyed_in (λ s. PlaybackMeans s w th None → PlaybackMeans (entered (playback_decides s call.Drain w) s) w th None) (Prepared ∷ Running ∷ []) (Ok (Enter (cond (eqb w 0) Setup Draining)))
    (λ _. (λ m. drains, (λ m. drains, tt))) s

-- what a call that throws away all that waits must bring about
abbrev EmptiesRightly : CallKind → Type 0
EmptiesRightly k = (s : State) (w th : ℕ) → 1 ≤ th → is_refusal (playback_decides s k w) ≡ false → PlaybackMeans (entered (playback_decides s k w) s) 0 th None

drop_means : EmptiesRightly call.Drop
drop_means s w th some =
    let empty : PlaybackMeans Setup 0 th None = (refl, refl) in
    obeyed_in (λ s. PlaybackMeans (entered (playback_decides s call.Drop w) s) 0 th None) (Prepared ∷ Running ∷ Xrun ∷ Draining ∷ Paused ∷ []) (Ok (Enter Setup)) (λ _. (empty, (empty, (empty, (empty, (empty, tt)))))) s

prepare_means : EmptiesRightly call.Prepare
prepare_means s w th some = obeyed_in (λ s. PlaybackMeans (entered (playback_decides s call.Prepare w) s) 0 th None) (Setup ∷ Xrun ∷ []) (Ok (Enter Prepared)) (λ _. (some, (some, tt))) s

-- where the last frame went a draining stream is set up again, and any other is in XRUN, as it is where the sink stopped
abbrev ticked : State → ℕ → ℕ → ℕ → State
ticked s w k went = cond (eqb went w) (cond (among s (Draining ∷ [])) Setup Xrun) (cond (ltb went k) Xrun s)

ticked_means : (s : State) (w th k went : ℕ) (out : Option LeaseParts) → went ≤ w → moves (playback_decides s call.Tick w) ≡ true → PlaybackMeans s w th out → PlaybackMeans (ticked s w k went) (w - went) th out
ticked_means s w th k went out there =
    let means : State → Type 0 = λ s. PlaybackMeans s (w - went) th out in
    moving_in (λ s. PlaybackMeans s w th out → means (ticked s w k went)) (Running ∷ Draining ∷ []) (
      λ m. cond_both (eqb went w) Xrun (cond (ltb went k) Xrun Running) means (λ all. tt) (λ left. cond_both (ltb went k) Xrun Running means (λ stopped. tt) (λ done. omega (arith, eqb-false went w left))),
      (
        λ m. cond_both (eqb went w) Setup (cond (ltb went k) Xrun Draining) means (λ all. (omega (arith, eqb-true went w all), m.1))
            (λ left. cond_both (ltb went k) Xrun Draining means (λ stopped. tt) (λ done. (omega (arith, eqb-false went w left), m.1))),
        tt,
      ),
    ) s

-- ---- the same of the stream's numbers

-- the state of these numbers means what it says
abbrev pub Means : Book → Type 0
Means b = PlaybackMeans b.state (waits b) b.geometry.threshold b.lending.out

module _ (b b' : Book) (r : Answer) (m : Means b) where
  some_threshold : 1 ≤ b.geometry.threshold
  some_threshold = b.geometry.lawful.2.0

  means_begins : (wanted : ℕ) → Begins b wanted r b' → Means b'
  means_begins wanted went = holds_after Means (no_begin b wanted) r went m (λ none done. rw done.stream (lent_means b.state (waits b) _ _ _ none.1.0 m))

  abbrev CommitsByTable : LeaseParts → ℕ → Type 0
  CommitsByTable l n =
      ByVerdict b.state (decides b call.Commit) (not (holds b.lending.out l)) r b (lends b (with_none b.lending)) b'
      (ltb l.length n ⇒ refusal.Beyond ∷ ltb frame_limit (b.committed + n) ⇒ refusal.Limit ∷ []) (Committed b n r b')

  by_table : (l : LeaseParts) (n : ℕ) → Commits b l n r b' → CommitsByTable l n
  by_table l n went =
      playback_by_table (waits b) (not (holds b.lending.out l)) r b (lends b (with_none b.lending)) b'
      (ltb l.length n ⇒ refusal.Beyond ∷ ltb frame_limit (b.committed + n) ⇒ refusal.Limit ∷ []) (Committed b n r b') b.state went

  means_commits : (l : LeaseParts) (n : ℕ) → b.oldest ≤ b.committed → Commits b l n r b' → Means b'
  means_commits l n low went =
      let more : (b.committed + n) - b.oldest ≡ waits b + n = omega arith in
      holds_after Means (not (holds b.lending.out l) ⇒ refusal.WrongLease ∷ refusing_unless (among b.state (Xrun ∷ [])) (decides b call.Commit) ∷ []) r (by_table l n went) m
      (λ _ further. holds_after Means (refusing (decides b call.Commit) ∷ ltb l.length n ⇒ refusal.Beyond ∷ ltb frame_limit (b.committed + n) ⇒ refusal.Limit ∷ []) r further (ended_means b.state (waits b) _ _ m)
      (λ none done. rw (done.stream, more) (committed_means b.state (waits b) _ n _ some_threshold none.0 m)))

  means_turned : (k : CallKind) → TurnsRightly k b.lending.out → is_refusal (decides b k) ≡ false → Turned b k r b' → Means b'
  means_turned k rightly goes done = rw done.stream (rightly b.state (waits b) _ goes m)

  means_turns : (k : CallKind) → TurnsRightly k b.lending.out → Turns b k r b' → Means b'
  means_turns k rightly went = holds_after Means (refusing (decides b k) ∷ []) r went m (λ none done. means_turned k rightly none.0 done)

  means_drains : Drains b r b' → Means b'
  means_drains went =
      holds_after Means (is_some b.lending.out ⇒ refusal.LeaseOut ∷ refusing (decides b call.Drain) ∷ []) r went m
      (λ none done. means_turned call.Drain (rw (none_out _ none.0) drain_means) none.1.0 done)

  means_emptied : (k : CallKind) → EmptiesRightly k → is_refusal (decides b k) ≡ false → (due : Option Entry) (es es' : List Entry) → Emptied b k due es r b' es' → Means b'
  means_emptied k rightly goes due es es' done =
      let none_wait : b.committed - b.committed ≡ 0 = omega arith in
      rw (done.stream, none_wait) (rightly b.state (waits b) _ some_threshold goes)

  means_takes : (es : List Entry) → Takes b es r b' → Means b'
  means_takes es went = holds_after Means (not (eqb (length es) b.geometry.ledger) ⇒ refusal.Memory ∷ []) r went m (λ _ done. rw done.stream m)

  means_played : {S : Type 0} (p : SinkPoints S) (sink sink' : S) (frames : List Frame) (es es' : List Entry) (k : ℕ) → moves (decides b call.Tick) ≡ true → Played p b sink frames es k r b' sink' es' → Means b'
  means_played p sink sink' frames es es' k moving done =
      let left : b.committed - (b.oldest + done.went) ≡ waits b - done.went = omega arith in
      rw (done.stream, left) (ticked_means b.state (waits b) _ k done.went _ done.there moving m)

-- ---- the same of a situation

module _ {S : Type 0} (p : SinkPoints S) (t u : Situation S) (r : Answer) (low : t.stream.oldest ≤ t.stream.committed) (m : Means t.stream) where
  pub means_step : (c : PlaybackCall) → Step p t c r u → Means u.stream
  means_step (Begin wanted) step = means_begins t.stream u.stream r m wanted step.0
  means_step (Put Own l j fs) step = rw step.1 m
  means_step (Put Another l j fs) step = rw step.1 m
  means_step (Mix Own l j fs) step = rw step.1 m
  means_step (Mix Another l j fs) step = rw step.1 m
  means_step (Commit l n) step = means_commits t.stream u.stream r m l n low step.0
  means_step Start step = means_turns t.stream u.stream r m call.Start (start_means _) step.0
  means_step (Tick Own Own k) step =
      holds_after {T = Book × S × List Entry} (λ x. Means x.0) (not (eqb (length t.memory) t.stream.geometry.buffer) ⇒ refusal.Memory ∷ not (eqb (length t.ledger) t.stream.geometry.ledger) ⇒ refusal.Memory ∷ []) r step.0 m
      (λ _ on. elim (cases_if (moves (decides t.stream call.Tick)) on) [
        | inl moving ↦
            holds_after {T = Book × S × List Entry} (λ x. Means x.0) (is_full t.stream.ledger ⇒ refusal.LedgerFull ∷ []) r moving.1 m
            (λ _ done. means_played t.stream u.stream r m p t.sink u.sink t.memory t.ledger u.ledger k moving.0 done)
        | inr still ↦ rw (ap (λ x. x.0) still.1.same) m
      ])
  means_step (Tick Own Another k) step = rw step.1 m
  means_step (Tick Another g k) step = rw step.1 m
  means_step Pause step = means_turns t.stream u.stream r m call.Pause (pause_means _) step.0
  means_step Resume step = means_turns t.stream u.stream r m call.Resume (resume_means _) step.0
  means_step Drain step = means_drains t.stream u.stream r m step.0
  means_step (Drop Own) step =
      holds_after {T = Book × List Entry} (λ x. Means x.0) (no_emptying t.stream call.Drop t.ledger) r step.0 m
      (λ none done. means_emptied t.stream u.stream r m call.Drop drop_means none.1.0 _ _ _ done)
  means_step (Drop Another) step = rw step.1 m
  means_step (Prepare Own) step =
      holds_after {T = Book × S × List Entry} (λ x. Means x.0) (no_emptying t.stream call.Prepare t.ledger) r step.0 m
      (λ none done. means_emptied t.stream u.stream r m call.Prepare prepare_means none.1.0 _ _ _ done.0)
  means_step (Prepare Another) step = rw step.1 m
  means_step (Take Own) step = means_takes t.stream u.stream r m t.ledger step.0
  means_step (Take Another) step = rw step.1 m

-- ---- a call that names the lease that is out is not refused by 4

-- a lease is out in no state that refuses it, but in XRUN
met_rightly : (s : State) (w th : ℕ) (out : Option LeaseParts) (l : LeaseParts) → PlaybackMeans s w th out → MetRightly (not (holds out l)) (playback_decides s call.Access w)
met_rightly Setup w th out l m held e = absurd (both_ways true (rw m.1 at held) refl)
met_rightly Prepared w th out l m held e = absurd (both_ways false refl e)
met_rightly Running w th out l m held e = absurd (both_ways false refl e)
met_rightly Xrun w th out l m held e = differ refusal.Xrun refusal.State refl
met_rightly Draining w th out l m held e = absurd (both_ways true (rw m.1 at held) refl)
met_rightly Paused w th out l m held e = absurd (both_ways false refl e)

module _ {S : Type 0} (p : SinkPoints S) (t u : Situation S) (r : Answer) (m : Means t.stream) where
  rightly : (l : LeaseParts) → MetRightly (not (holds t.stream.lending.out l)) (decides t.stream call.Access)
  rightly l = met_rightly t.stream.state (waits t.stream) _ _ l m

  -- put and mix, with what an obeyed one writes
  accesses : (l : LeaseParts) (j n : ℕ) (frames : List Frame) → Unless (no_access t.stream t.memory l j n) r t.memory u.memory (Written t.memory (l.place + j) frames r u.memory) → r ≢ Err refusal.State
  accesses l j n frames went =
      spared (no_access t.stream t.memory l j n) refusal.State r t.memory u.memory (access_spared _ _ _ _ (rightly l)) went (λ _ done. done_is_no_refusal r refusal.State done.answer)

  commits : (l : LeaseParts) (n : ℕ) → Commits t.stream l n r u.stream → r ≢ Err refusal.State
  commits l n went =
      let b = t.stream in
      spared (not (holds b.lending.out l) ⇒ refusal.WrongLease ∷ refusing_unless (among b.state (Xrun ∷ [])) (decides b call.Commit) ∷ []) refusal.State r b u.stream (commit_spared _ _ _ (rightly l)) (by_table b u.stream r m l n went)
      (λ none further. spared (refusing (decides b call.Commit) ∷ ltb l.length n ⇒ refusal.Beyond ∷ ltb frame_limit (b.committed + n) ⇒ refusal.Limit ∷ []) refusal.State r (lends b (with_none b.lending)) u.stream (limited_spared _ _ _ (rightly l none.0)) further
      (λ _ done. done_is_no_refusal r refusal.State done.answer))

  elsewhere : Refuses refusal.Memory r t u → r ≢ Err refusal.State
  elsewhere step = refused_otherwise r refusal.Memory refusal.State step.0 (differ refusal.Memory refusal.State refl)

  pub no_wrong_state : (c : PlaybackCall) → Step p t c r u → names_lease (kind_of c) ≡ true → r ≢ Err refusal.State
  no_wrong_state (Begin wanted) step named = absurd (both_ways false refl named)
  no_wrong_state (Put Own l j fs) step named = accesses l j (length fs.now) _ step.0
  no_wrong_state (Put Another l j fs) step named = elsewhere step
  no_wrong_state (Mix Own l j fs) step named = accesses l j (length fs.now) _ step.0
  no_wrong_state (Mix Another l j fs) step named = elsewhere step
  no_wrong_state (Commit l n) step named = commits l n step.0
  no_wrong_state Start step named = absurd (both_ways false refl named)
  no_wrong_state (Tick g e k) step named = absurd (both_ways false refl named)
  no_wrong_state Pause step named = absurd (both_ways false refl named)
  no_wrong_state Resume step named = absurd (both_ways false refl named)
  no_wrong_state Drain step named = absurd (both_ways false refl named)
  no_wrong_state (Drop g) step named = absurd (both_ways false refl named)
  no_wrong_state (Prepare g) step named = absurd (both_ways false refl named)
  no_wrong_state (Take g) step named = absurd (both_ways false refl named)
