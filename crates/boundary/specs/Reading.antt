-- Bytes read from the front of those that are left.
--   Takes n bytes r rest    r is the first n of the bytes, and the rest follows them; or, where there are fewer than n, none is taken
-- Assumes nothing.
use Rattle.std.specs.Prelude.{◌≡◌, ℕ, ◌<◌, Some, None, Option, List, ◌++◌, length}

abbrev pub Takes : ℕ → List ℕ → Option (List ℕ) → List ℕ → Type 0
Takes n bytes (Some first) rest = (bytes ≡ first ++ rest) × (length first ≡ n)
Takes n bytes None rest = (length bytes < n) × (rest ≡ bytes)
