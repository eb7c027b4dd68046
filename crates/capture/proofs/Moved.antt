-- The span of a ring after its numbers moved. Assumes nothing.
use Rattle.std.proofs.Common.{◌≡◌, ℕ, ◌+◌, ◌-◌, ◌%◌, ◌≤◌, Some, None, Option, Result, ap, ◌∙◌, arith}
use native.Mathlib.Nat.{mod-add-mod}
use Rattle.calls.specs.declared.lease_parts.LeaseParts.{LeaseParts}
use Rattle.ring.specs.declared.span.Span.{Span}
use Rattle.ring.specs.declared.does_not_fit.DoesNotFit.{DoesNotFit}
use Rattle.ring.specs.Moves.{Frees}
use Rattle.ring.specs.Spans.{Has}
use Rattle.ring.proofs.Moving.{freed}

-- n of its elements were freed
pub ring_freed : (r : Result Unit DoesNotFit) (s t : Span) (buffer oldest unread n : ℕ) → Has s buffer (oldest % buffer) unread → n ≤ unread → Frees r s n t
    → Has t buffer ((oldest + n) % buffer) (unread - n)
ring_freed r s t buffer oldest unread n (size, first, count) h f =
    let e = freed r s n t (omega arith) f in (
      e.0 ∙ size,
      e.1 ∙ ap (λ (x : ℕ). (x + n) % s.size) first ∙ ap (λ (x : ℕ). (oldest % buffer + n) % x) size ∙ mod-add-mod oldest buffer n,
      e.2 ∙ ap (λ (x : ℕ). x - n) count,
    )

-- where none is out, every lease out has what is asked of it
pub none_out : (P : LeaseParts → Type 0) (out : Option LeaseParts) → out ≡ None → (l : LeaseParts) → out ≡ Some l → P l
none_out P out none l some = let z : ◌≡◌ {A = ℕ} 0 1 = cc in absurd (omega arith)
