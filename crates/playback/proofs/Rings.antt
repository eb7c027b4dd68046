-- The ring of frames, as it follows a stream's counts.
use Rattle.std.proofs.Common.{◌≡◌, ℕ, ◌+◌, ◌%◌, ap, ◌∙◌}
use native.Mathlib.Nat.{mod-add-mod}

-- a place n further on is the place of the frame n further on
pub place_on : (size place buffer number n : ℕ) → size ≡ buffer → place ≡ number % buffer → (place + n) % size ≡ (number + n) % buffer
place_on size place buffer number n a b = ap (λ (z : ℕ). (place + n) % z) a ∙ ap (λ (z : ℕ). (z + n) % buffer) b ∙ mod-add-mod number buffer n
