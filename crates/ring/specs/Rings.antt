-- What the calls of a ring do, by their answers. A ring is a span s over a memory m.
-- Fits: the memory is as long as the span says.
-- Adds: x is added at the newest end, so that the span is t and the memory n.
-- Reads: the oldest element is read.
-- ReadsAt: the i-th element is read, where the oldest is the 0th.
-- GivesUp: the oldest element is given up, so that the span is t.
-- Assumes nothing.
use Rattle.std.specs.Prelude.{◌≡◌, ℕ, ◌+◌, ◌-◌, ◌%◌, ◌<◌, Ok, Err, Result, List, [], ◌∷◌, ◌++◌, length, drop, Some, None, Option, slice_index_or, slice_set}
use Rattle.ring.specs.declared.does_not_fit.DoesNotFit.{DoesNotFit}
use Rattle.ring.specs.declared.span.Span.{Span}
use Rattle.ring.specs.Spans.{Has, Same, next_of, holds}

module _ {T : Type 0} where
  abbrev pub Fits : Span → List T → Type 0
  Fits s m = length m ≡ s.size

  abbrev pub Adds : Result Unit DoesNotFit → Span → List T → T → Span → List T → Type 0
  Adds (Ok u) s m x t n =
      Fits s m
      × (s.count < s.size)
      × (n ≡ slice_set m (next_of s) x)
      × Has t s.size s.oldest (s.count + 1)
      × (holds t n ≡ holds s m ++ x ∷ [])
  Adds (Err e) s m x t n = (Fits s m → s.count < s.size → ⊥) × (n ≡ m) × Same s t

  abbrev pub Reads : Option T → Span → List T → Type 0
  Reads (Some x) s m = Fits s m × (0 < s.count) × (holds s m ≡ x ∷ drop 1 (holds s m))
  Reads None s m = Fits s m → 0 < s.count → ⊥

  abbrev pub ReadsAt : Option T → Span → List T → ℕ → Type 0
  ReadsAt (Some x) s m i = Fits s m × (i < s.count) × (x ≡ slice_index_or (holds s m) i x)
  ReadsAt None s m i = Fits s m → i < s.count → ⊥

  abbrev pub GivesUp : Option T → Span → List T → Span → Type 0
  GivesUp (Some x) s m t =
      Fits s m
      × (0 < s.count)
      × Has t s.size ((s.oldest + 1) % s.size) (s.count - 1)
      × (holds s m ≡ x ∷ holds t m)
  GivesUp None s m t = (Fits s m → 0 < s.count → ⊥) × Same s t
