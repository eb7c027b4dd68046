-- A tick of a capture stream, from what came and what was noted. Assumes nothing.
use Rattle.std.proofs.Common.{◌≡◌, ℕ, ◌+◌, ◌-◌, ◌%◌, List, length, take, drop, Option, ap, ◌∙◌, Ok}
use native.Mathlib.Nat.{mod-add-mod}
use Rattle.codes.specs.declared.state.State.{State}
use Rattle.frames.specs.declared.frame.Frame.{Frame}
use Rattle.sources.specs.Source.{SourcePoints, Gives}
use Rattle.calls.specs.declared.answer.Outcome.TheVariants.{Ticked}
use Rattle.calls.specs.declared.entry.Entry.{Entry}
use Rattle.ring.specs.declared.span.Span.{Span}
use Rattle.ring.specs.Spans.{Has}
use Rattle.account.specs.Capture.{Captured, after_tick, overrun, stored}
use Rattle.account.specs.CaptureBook.{Book}
use Rattle.account.specs.Ledgers.{LedgerNumbers, noted, with_noted}
use Rattle.account.specs.Playback.{periods}
use Rattle.capture.proofs.Coming.{stored_place}

pub captured :
    {R : Type 0} (p : SourcePoints R) (b : Book) (s s' : R) (m m' : List Frame) (es es' : List Entry) (k kept lost : ℕ) (span : Span)
    (state : State) (passed : ℕ) (due : Option Entry) (n : LedgerNumbers)
    → Has span b.geometry.buffer (b.oldest % b.geometry.buffer) b.unread
    → kept ≡ length (take (span.size - span.count) (take k (p.coming s)))
    → lost ≡ length (drop (span.size - span.count) (take k (p.coming s)))
    → Gives p s (take k (p.coming s)) s'
    → m' ≡ stored span.size m (span.oldest + span.count) (take (span.size - span.count) (take k (p.coming s)))
    → state ≡ after_tick b kept
    → passed ≡ periods b.geometry.period (b.oldest + b.unread) kept
    → due ≡ overrun b kept lost
    → n ≡ with_noted b.ledger due
    → es' ≡ noted b.ledger es due
    → Captured p b s m es k (Ok (Ticked (record { frames = kept; state = state; periods = passed }))) (record { geometry = b.geometry; state = state; given_up = b.given_up + (kept + lost); oldest = b.oldest; unread = b.unread + kept; lending = b.lending; ledger = n }) s' m' es'
captured p b s s' m m' es es' k kept lost span state passed due n (size, first, count) keeps loses gives writes turns passes dues numbers notes =
    let buffer : ℕ = b.geometry.buffer in
    let came : List Frame = take k (p.coming s) in
    let room : span.size - span.count ≡ buffer - b.unread = λ i. size i - count i in
    let keeps' : kept ≡ length (take (buffer - b.unread) came) = keeps ∙ ap (λ (r : ℕ). length (take r came)) room in
    let loses' : lost ≡ length (drop (buffer - b.unread) came) = loses ∙ ap (λ (r : ℕ). length (drop r came)) room in
    let turns' = turns ∙ ap (after_tick b) keeps' in
    let passes' = passes ∙ ap (periods b.geometry.period (b.oldest + b.unread)) keeps' in
    let dues' : due ≡ overrun b (length (take (buffer - b.unread) came)) (length (drop (buffer - b.unread) came)) = dues ∙ (λ i. overrun b (keeps' i) (loses' i)) in
    let numbers' = numbers ∙ ap (with_noted b.ledger) dues' in
    let place : (span.oldest + span.count) % buffer ≡ (b.oldest + b.unread) % buffer = (λ i. (first i + count i) % buffer) ∙ mod-add-mod b.oldest buffer b.unread in
    record {
      came = came;
      came_is = λ i. came;
      given = gives;
      answer = λ i. Ok (Ticked (record { frames = keeps' i; state = turns' i; periods = passes' i }));
      stream = λ i. record { geometry = b.geometry; state = turns' i; given_up = b.given_up + (keeps' i + loses' i); oldest = b.oldest; unread = b.unread + keeps' i; lending = b.lending; ledger = numbers' i };
      memory = writes ∙ (λ i. stored (size i) m (span.oldest + span.count) (take (room i) came)) ∙ stored_place buffer m (span.oldest + span.count) (b.oldest + b.unread) (take (buffer - b.unread) came) place;
      ledger = notes ∙ ap (noted b.ledger es) dues';
    }
