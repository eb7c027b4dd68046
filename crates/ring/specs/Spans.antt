-- span: where the elements of a ring lie: the size of its memory, the place of the oldest and how many there are.
-- Has: a span has given numbers.
-- Same: a span has the numbers of another.
-- next_of: the place where the next element goes.
-- holds: the elements, oldest first, that a span marks in a memory.
-- Assumes nothing.
use Rattle.std.specs.Prelude.{◌≡◌, ℕ, ◌+◌, ◌%◌, List}
use Rattle.ring.specs.declared.span.Span.{Span}
use Rattle.ring.specs.Held.{held}

abbrev pub Has : Span → ℕ → ℕ → ℕ → Type 0
Has s size oldest count = (s.size ≡ size) × (s.oldest ≡ oldest) × (s.count ≡ count)

abbrev pub Same : Span → Span → Type 0
Same s t = Has t s.size s.oldest s.count

abbrev pub next_of : Span → ℕ
next_of s = (s.oldest + s.count) % s.size

abbrev pub holds : {T : Type 0} → Span → List T → List T
holds s memory = held s.oldest s.count memory
