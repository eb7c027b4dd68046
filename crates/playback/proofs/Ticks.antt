-- What a tick of a playback stream did, from what became of its offers.
use Rattle.std.proofs.Common.{◌≡◌, ℕ, ◌%◌, ◌<◌, ◌≤◌, Bool, true, false, not, eqb, ltb, List, length, take, Some, None, Option, sym, ap, ◌∙◌, subst, inl, inr, arith, Ok}
use Rattle.std.proofs.lemmas.Bool.{lt-leb, cases_eq, cases_lt, eq-eqb, ne_eqb, lt-ltb, le-ltb, cond-true, cond-false}
use Rattle.codes.specs.declared.state.State.{State}
use Rattle.frames.specs.declared.frame.Frame.{Frame}
use Rattle.ring.specs.Held.{held}
use Rattle.ring.specs.Spans.{holds}
use Rattle.sinks.specs.declared.stop.Stop.{Stop}
use Rattle.sinks.specs.Sink.{SinkPoints, Offers}
use Rattle.calls.specs.Answers.{Answer}
use Rattle.calls.specs.declared.answer.Outcome.TheVariants.{Ticked}
use Rattle.calls.specs.declared.verdict.CallKind.TheVariants as call
use Rattle.calls.specs.declared.verdict.Effect.TheVariants.{Move}
use Rattle.calls.specs.declared.entry.Entry.{Entry}
use Rattle.playback.specs.declared.playback.Playback.{Playback}
use Rattle.playback.specs.declared.playing.Gone.{Gone}
use Rattle.account.specs.Ledgers.{is_full, noted}
use Rattle.ledger.specs.LedgerSpans.{numbers_of}
use Rattle.account.specs.Playback.{Played, Ticks, decides, advanced, after_tick, periods, sink_stop, tick_entry}
use Rattle.account.specs.PlaybackBook.{Book, waits, waiting_frames}
use Rattle.playback.specs.PlaybackBook.{book_of}
use Rattle.playback.specs.PlaybackTicks.{entry_of}
use Rattle.playback.specs.Playing.{Ended, Plays}
use Rattle.account.specs.Rules.{If}
use Rattle.account.specs.States.{moves}
use Rattle.playback.proofs.Plays.{length_holds}

if_true : (b : Bool) (A B : Type 0) → b ≡ true → A → If b A B
if_true b A B e a = subst (λ (x : Bool). If x A B) (sym e) a

if_false : (b : Bool) (A B : Type 0) → b ≡ false → B → If b A B
if_false b A B e a = subst (λ (x : Bool). If x A B) (sym e) a

pub holds_waiting : (s : Playback) (m : List Frame) → holds s.frames m ≡ waiting_frames (book_of s) m
holds_waiting s m = ap (λ (o : ℕ). held o s.frames.count m) s.ring.1 ∙ ap (λ (n : ℕ). held (s.oldest % s.geometry.buffer) n m) s.ring.2

pub length_waiting : (s : Playback) (m : List Frame) → length m ≡ s.geometry.buffer → length (holds s.frames m) ≡ waits (book_of s)
length_waiting s m fits = length_holds s.frames m (fits ∙ sym s.ring.0) ∙ s.ring.2

module _ {S : Type 0} (p : SinkPoints S) where
  pub gone_within : (s : Playback) (m : List Frame) (sink t : S) (k : ℕ) (r : Gone) → length m ≡ s.geometry.buffer → Plays p sink (holds s.frames m) k r t
      → r.went ≤ waits (book_of s)
  gone_within s m sink t k r fits plays = omega (arith, plays.there, length_waiting s m fits)

  none_less : (k went all waiting : ℕ) (t : S) → all ≡ waiting → Ended p went k all None t → (went ≡ waiting → ⊥) → k ≤ went
  none_less k went all waiting t a e h = elim (cases_lt went k) [ inl l ↦ absurd (h (e l ∙ a)) | inr l ↦ l ]

  entry_due : (b : Book) (k went all : ℕ) (o : Option Stop) (t : S) → all ≡ waits b → Ended p went k all o t
      → entry_of b k went o ≡ tick_entry b k went (p.stop t)
  entry_due b k went all None t a e =
      elim (cases_eq went (waits b)) [
        | inl h ↦
            cond-true (eqb went (waits b)) _ _ (eq-eqb went (waits b) h) ∙ sym (cond-true (eqb went (waits b)) _ _ (eq-eqb went (waits b) h))
        | inr h ↦
            cond-false (eqb went (waits b)) _ _ (ne_eqb went (waits b) h)
            ∙ sym (cond-false (ltb went k) _ _ (le-ltb went k (none_less k went all (waits b) t a e h)))
            ∙ sym (cond-false (eqb went (waits b)) _ _ (ne_eqb went (waits b) h))
      ]
  entry_due b k went all (Some w) t a (asked, there, empty, why) =
      ap (λ (x : Stop). Some (sink_stop b k went x)) why
      ∙ sym (cond-true (ltb went k) _ _ (lt-ltb went k asked))
      ∙ sym (cond-false (eqb went (waits b)) _ _ (ne_eqb went (waits b) (λ h. omega (arith, h, there, a))))

  stopped_at : (k went all waiting : ℕ) (o : Option Stop) (t : S) → all ≡ waiting → Ended p went k all o t → went < k → went < waiting → p.allowance t ≡ 0
  stopped_at k went all waiting None t a e h l = absurd (omega (arith, a, e h, l))
  stopped_at k went all waiting (Some w) t a e h l = e.2

  pub played : (s : Playback) (m : List Frame) (es es' : List Entry) (sink t : S) (k : ℕ) (r : Gone) (state : State) (n : ℕ) (due : Option Entry) (b' : Book)
      → length m ≡ s.geometry.buffer → Plays p sink (holds s.frames m) k r t
      → state ≡ after_tick (book_of s) k r.went → n ≡ periods s.geometry.period s.oldest r.went
      → due ≡ entry_of (book_of s) k r.went r.stop
      → b' ≡ advanced (book_of s) state r.went due → es' ≡ noted (numbers_of s.ledger) es due
      → Played p (book_of s) sink m es k (Ok (Ticked (record { frames = r.went; state = state; periods = n }))) b' t es'
  played s m es es' sink t k r state n due b' fits plays is_state is-periods is-due is-book is-ledger =
      let b : Book = book_of s in
      let long = length_waiting s m fits in
      let entry : due ≡ tick_entry b k r.went (p.stop t) = is-due ∙ entry_due b k r.went _ r.stop t long plays.ended in
      record {
        went = r.went;
        asked = plays.asked;
        there = gone_within s m sink t k r fits plays;
        offered = subst (λ (z : List Frame). Offers p sink (take r.went z) t) (holds_waiting s m) plays.offered;
        stopped = stopped_at k r.went _ (waits b) r.stop t long plays.ended;
        answer = λ i. Ok (Ticked (record { frames = r.went; state = is_state i; periods = is-periods i }));
        stream = is-book ∙ (λ i. advanced b (is_state i) r.went (entry i));
        ledger = is-ledger ∙ ap (noted (numbers_of s.ledger) es) entry;
      }

  -- where no reason to refuse stands and the state moves frames, the tick played
  pub ticks_played : (b : Book) (sink : S) (m : List Frame) (es : List Entry) (k : ℕ) (r : Answer) (b' : Book) (t : S) (es' : List Entry)
      → length m ≡ b.geometry.buffer → length es ≡ b.geometry.ledger → decides b call.Tick ≡ Ok Move → b.ledger.count < b.ledger.size
      → Played p b sink m es k r b' t es' → Ticks p b sink m es k r b' t es'
  ticks_played b sink m es k r b' t es' fits ledger move room done =
      if_false (not (eqb (length m) b.geometry.buffer)) _ _ (ap not (eq-eqb (length m) b.geometry.buffer fits))
      (if_false (not (eqb (length es) b.geometry.ledger)) _ _ (ap not (eq-eqb (length es) b.geometry.ledger ledger))
      (if_true (moves (decides b call.Tick)) _ _ (ap moves move)
      (if_false (is_full b.ledger) _ _ (lt-leb b.ledger.size b.ledger.count room)
      done)))
