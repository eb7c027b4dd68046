-- What becomes of the elements held, in any memory of the right length, where only the numbers of a ring move.
-- FreesOldest: the n oldest given up.
-- TakesInNext: n places after the newest taken in, in order.
-- HoldsPlaces: element i stands i places after the oldest, read round.
-- EmptyHolds: an empty ring holds nothing, whatever its place.
-- Assumes nothing.
use Rattle.std.specs.Prelude.{◌≡◌, ℕ, ◌+◌, ◌-◌, ◌%◌, ◌<◌, ◌≤◌, List, [], ◌++◌, length, drop, slice_index_or}
use Rattle.ring.specs.Held.{held}

abbrev pub FreesOldest : Type 0 → Type 0
FreesOldest T = (size oldest count n : ℕ) (m : List T) → length m ≡ size → oldest < size → count ≤ size → n ≤ count
    → held ((oldest + n) % size) (count - n) m ≡ drop n (held oldest count m)

abbrev pub TakesInNext : Type 0 → Type 0
TakesInNext T = (size oldest count n : ℕ) (m : List T) → length m ≡ size → oldest < size → count + n ≤ size
    → held oldest (count + n) m ≡ held oldest count m ++ held ((oldest + count) % size) n m

abbrev pub HoldsPlaces : Type 0 → Type 0
HoldsPlaces T = (size oldest count : ℕ) (m : List T) → length m ≡ size → oldest < size → count ≤ size
    → (length (held oldest count m) ≡ count) × ((i : ℕ) (d : T) → i < count → slice_index_or (held oldest count m) i d ≡ slice_index_or m ((oldest + i) % size) d)

abbrev pub EmptyHolds : Type 0 → Type 0
EmptyHolds T = (place : ℕ) (m : List T) → held place 0 m ≡ []
