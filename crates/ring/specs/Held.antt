-- memory: the list of the elements at the places of a ring, 0 first.
-- held: the elements that a ring holds, oldest first.
-- Assumes nothing.
use Rattle.std.specs.Prelude.{ℕ, List, ◌++◌, take, drop}

-- the memory read round from the oldest's place, as many elements as are counted
abbrev pub held : {T : Type 0} → ℕ → ℕ → List T → List T
held oldest count memory = take count (drop oldest memory ++ take oldest memory)
