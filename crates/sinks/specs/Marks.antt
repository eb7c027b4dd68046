-- The marks of a fault layer, of which some are removed.
--   next_mark m     the next mark, if one is left
--   stands_at m     whether the frames taken have come to it
--   capped m b      the lesser of b and the frames up to it; b where no mark is left
--   counted m       the frames taken, after one more: they count only while a mark is left
--   lifted m        the place of the next mark, after the one at which it stands is removed
--   CheckedMarks   what a check answers: at most 16 marks, strictly rising
-- Assumes nothing.
use Rattle.std.specs.Prelude.{◌≡◌, ℕ, ◌+◌, ◌-◌, ◌≤◌, min, Bool, cond, ◌&&◌, List, length, take, Ok, Err, Result, ◌==◌, nat_lt, slice_index}
use Rattle.codes.specs.declared.refusal.Refusal.{Refusal}
use Rattle.codes.specs.declared.refusal.Refusal.TheVariants.{Layer}
use Rattle.sinks.specs.declared.marks.Marks.{Marks}
use Rattle.sinks.specs.declared.stop.Stop.{Stop}
use Rattle.sinks.specs.Rising.{Rises}
use Rattle.sinks.specs.Stops.{passed_up, fault}

abbrev pub is_left : Marks → Bool
is_left m = nat_lt m.next m.end

abbrev pub next_mark : Marks → ℕ
next_mark m = slice_index m.at m.next

abbrev pub stands_at : Marks → Bool
stands_at m = is_left m && next_mark m == m.taken

abbrev pub capped : Marks → ℕ → ℕ
capped m b = cond (is_left m) (min b (next_mark m - m.taken)) b

abbrev pub stops : Marks → Stop → Stop
stops m w = cond (stands_at m) fault (passed_up w)

-- one more frame was taken
pub record Counted (m m' : Marks) : Type 0 where
  pub marks_same : m'.at ≡ m.at
  pub next_same : m'.next ≡ m.next
  pub end_same : m'.end ≡ m.end
  pub counts : m'.taken ≡ cond (is_left m) (m.taken + 1) m.taken

-- the mark at which it stands is removed
pub record Lifted (m m' : Marks) : Type 0 where
  pub marks_same : m'.at ≡ m.at
  pub removed : m'.next ≡ cond (stands_at m) (m.next + 1) m.next
  pub end_same : m'.end ≡ m.end
  pub taken_same : m'.taken ≡ m.taken

-- these very marks, with none removed and nothing taken
pub record Fresh (m : Marks) (ms : List ℕ) : Type 0 where
  pub marks : take m.end m.at ≡ ms
  pub none_removed : m.next ≡ 0
  pub all_left : m.end ≡ length ms
  pub none_taken : m.taken ≡ 0

abbrev pub CheckedMarks : List ℕ → Result Marks Refusal → Type 0
CheckedMarks ms (Ok m) = ((length ms ≤ 16) × Rises ms) × Fresh m ms
CheckedMarks ms (Err e) = (e ≡ Layer) × ((length ms ≤ 16) × Rises ms → ⊥)
