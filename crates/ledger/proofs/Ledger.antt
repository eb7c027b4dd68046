-- The oldest entry of a ledger, taken, and room for an entry.
use Rattle.std.proofs.Common.{◌≡◌, ℕ, ◌<◌, List, Some, None, Option, refl}
use Rattle.calls.specs.declared.entry.Entry.{Entry}
use Rattle.ring.specs.declared.span.Span.{Span}
use Rattle.ring.specs.Rings.{Fits, GivesUp}
use Rattle.ring.specs.Spans.{Has}
use Rattle.ledger.specs.LedgerSpans.{numbers_of, Room}

pub numbers_are : (s : Span) (size oldest count : ℕ) → Has s size oldest count → numbers_of s ≡ record { size = size; oldest = oldest; count = count }
numbers_are s size oldest count (a, b, c) = λ i. record { size = a i; oldest = b i; count = c i }

pub took_none : (s : Span) (es : List Entry) (r : Option Entry) (t : Span) → (Fits s es → ⊥) → GivesUp r s es t → (r ≡ None) × (numbers_of t ≡ numbers_of s)
took_none s es (Some e) t not-whole (fits, some, has, is) = absurd (not-whole fits)
took_none s es None t not-whole (none, has) = (refl, numbers_are t _ _ _ has)

-- there is room for an entry that is due, where there is room for any
pub room_any : (s : Span) (due : Option Entry) → s.count < s.size → Room s due
room_any s None h = tt
room_any s (Some e) h = h
