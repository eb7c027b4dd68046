-- What the moves of a span do, by their answers: Ok where the span s became t, an error where it was left as it was.
-- Frees: n elements are given up at the oldest end.
-- TakesIn: n places after the newest are taken in.
-- SetsTo: an empty ring is set to a place.
-- Assumes nothing.
use Rattle.std.specs.Prelude.{◌≡◌, ℕ, ◌+◌, ◌-◌, ◌%◌, ◌<◌, ◌≤◌, Ok, Err, Result}
use Rattle.ring.specs.declared.does_not_fit.DoesNotFit.{DoesNotFit}
use Rattle.ring.specs.declared.span.Span.{Span}
use Rattle.ring.specs.Spans.{Has, Same}

abbrev pub Frees : Result Unit DoesNotFit → Span → ℕ → Span → Type 0
Frees (Ok u) s n t = (n ≤ s.count) × Has t s.size ((s.oldest + n) % s.size) (s.count - n)
Frees (Err e) s n t = (s.count < n) × Same s t

abbrev pub TakesIn : Result Unit DoesNotFit → Span → ℕ → Span → Type 0
TakesIn (Ok u) s n t = (s.count + n ≤ s.size) × Has t s.size s.oldest (s.count + n)
TakesIn (Err e) s n t = (s.size < s.count + n) × Same s t

abbrev pub SetsTo : Result Unit DoesNotFit → Span → ℕ → Span → Type 0
SetsTo (Ok u) s place t = (s.count ≡ 0) × (place < s.size) × Has t s.size place 0
SetsTo (Err e) s place t = (s.count ≡ 0 → place < s.size → ⊥) × Same s t
