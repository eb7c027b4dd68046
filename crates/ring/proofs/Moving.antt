-- What the answers of a ring mean, for its callers.
use Rattle.std.proofs.Common.{◌≡◌, ℕ, ◌+◌, ◌-◌, ◌%◌, ◌≤◌, Ok, Err, Result, List, ◌∷◌, drop, Some, sym, ap, ◌∙◌, subst, arith}
use Rattle.ring.specs.declared.does_not_fit.DoesNotFit.{DoesNotFit}
use Rattle.ring.specs.declared.span.Span.{Span}
use Rattle.ring.specs.Held.{held}
use Rattle.ring.specs.Spans.{Has, holds}
use Rattle.ring.specs.Moves.{Frees, TakesIn}
use Rattle.ring.specs.Rings.{Fits, Reads, GivesUp}
use Rattle.ring.proofs.Holding.{held_free}

-- enough elements can be freed
pub freed : (r : Result Unit DoesNotFit) (s : Span) (n : ℕ) (t : Span) → n ≤ s.count → Frees r s n t
    → Has t s.size ((s.oldest + n) % s.size) (s.count - n)
freed (Ok u) s n t h f = f.1
freed (Err d) s n t h f = absurd (omega (arith, f.0))

-- enough free places can be taken in
pub taken_in : (r : Result Unit DoesNotFit) (s : Span) (n : ℕ) (t : Span) → s.count + n ≤ s.size → TakesIn r s n t
    → Has t s.size s.oldest (s.count + n)
taken_in (Ok u) s n t h f = f.1
taken_in (Err d) s n t h f = absurd (omega (arith, f.0))

module _ {T : Type 0} where
  -- the same numbers mark the same elements
  pub holds_has : (s : Span) (size oldest count : ℕ) (m : List T) → Has s size oldest count → holds s m ≡ held oldest count m
  holds_has s size oldest count m l = ap (λ o. held o s.count m) l.1 ∙ ap (λ c. held oldest c m) l.2

  -- the elements after n were freed
  pub holds_freed : (s t : Span) (n : ℕ) (m : List T) → Fits s m → n ≤ s.count → Has t s.size ((s.oldest + n) % s.size) (s.count - n)
      → holds t m ≡ drop n (holds s m)
  holds_freed s t n m e h l =
      holds_has t s.size ((s.oldest + n) % s.size) (s.count - n) m l
      ∙ held_free s.size s.oldest s.count n m e s.within.0 s.within.1 h

  -- the oldest, read and then freed
  pub given_up : (r : Result Unit DoesNotFit) (s : Span) (n : ℕ) (t : Span) (m : List T) (x : T) → Reads (Some x) s m → Frees r s n t → n ≡ 1 → GivesUp (Some x) s m t
  given_up r s n t m x o f e =
      let g : Frees r s 1 t = subst (λ k. Frees r s k t) e f in
      let l = freed r s 1 t o.1 g in
      (o.0, o.1, l, o.2 ∙ ap (λ y. x ∷ y) (sym (holds_freed s t 1 m o.0 o.1 l)))
