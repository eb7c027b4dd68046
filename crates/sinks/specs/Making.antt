-- Making rules: what a sink would bring out of each list of frames.
--   once m A B   what the rule m makes of B once it has taken A: what it makes of A followed by B, less what it makes of A
--   Lawful m     an empty list brings out nothing, and to take a list in two goes, A and then B, brings out the same as to
--                take it in one
-- Assumes nothing.
use Rattle.std.specs.Prelude.{◌≡◌, List, [], ◌++◌, length, drop}

module _ {F : Type 0} where
  abbrev pub once : (List F → List F) → List F → List F → List F
  once m A B = drop (length (m A)) (m (A ++ B))

  pub record Lawful (m : List F → List F) : Type 0 where
    pub nothing : m [] ≡ []
    pub followed : (A B : List F) → m (A ++ B) ≡ m A ++ once m A B
