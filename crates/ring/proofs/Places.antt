-- Places that wrap at the size of a ring.
use Rattle.std.proofs.Common.{◌≡◌, ℕ, ◌+◌, ◌-◌, ◌%◌, ◌<◌, ◌≤◌, ◌⊎◌, ap, ◌∙◌, inl, inr, mod-eq_of_lt, arith}
use native.Mathlib.Nat.{add-mod_right}
use Rattle.std.proofs.lemmas.Bool.{cases_lt}

pub mod_before : (n b : ℕ) → n < b → n % b ≡ n
mod_before n b h = mod-eq_of_lt h

pub mod_past : (n b : ℕ) → b ≤ n → n - b < b → n % b ≡ n - b
mod_past n b h l =
    let e : n ≡ (n - b) + b = omega arith in ap (λ (x : ℕ). x % b) e ∙ add-mod_right (n - b) b ∙ mod-eq_of_lt l

-- a place less than a ring after another, before the end or past it
pub place_cases : (size o i : ℕ) → o < size → i ≤ size → ((o + i < size) × ((o + i) % size ≡ o + i)) ⊎ ((size ≤ o + i) × ((o + i) % size ≡ o + i - size))
place_cases size o i h l =
    elim (cases_lt (o + i) size) [
      | inl b ↦ inl (b, mod_before (o + i) size b)
      | inr b ↦ inr (b, mod_past (o + i) size b (omega arith))
    ]

-- elements less than a ring apart stand at different places
pub places_differ : (size o i j : ℕ) → o < size → i < j → j < size → (o + i) % size ≡ (o + j) % size → ⊥
places_differ size o i j h l k e =
    elim (place_cases size o i h (omega arith)) [
      | inl a ↦ elim (place_cases size o j h (omega arith)) [ inl b ↦ omega (arith, a.1, b.1, e) | inr b ↦ omega (arith, a.0, a.1, b.0, b.1, e) ]
      | inr a ↦ elim (place_cases size o j h (omega arith)) [ inl b ↦ omega (arith, a.0, a.1, b.0, b.1, e) | inr b ↦ omega (arith, a.0, a.1, b.0, b.1, e) ]
    ]
