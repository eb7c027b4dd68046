-- A delay line in which each of 32 inputs stands twice.
--   Mirrored xs   what stands at a place below 32 stands 32 places further on too
--   recent i xs   the 32 inputs that are read from place i on
-- Assumes nothing.
use Rattle.std.specs.Prelude.{◌≡◌, ℕ, ◌+◌, ◌<◌, List, take, drop, ℤ, pos, slice_index_or}

abbrev pub Mirrored : List ℤ → Type 0
Mirrored xs = (i : ℕ) → i < 32 → slice_index_or xs (i + 32) (pos 0) ≡ slice_index_or xs i (pos 0)

abbrev pub recent : ℕ → List ℤ → List ℤ
recent i xs = take 32 (drop i xs)
