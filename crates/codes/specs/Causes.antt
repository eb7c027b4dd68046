-- Why a sink stopped. A cause is a number, and a sink may have causes of its own.
--   cause_full      the sink has no room left
--   cause_fault     the sink failed
--   cause_name n    what a report says of the cause n
-- Assumes nothing.
use Rattle.std.specs.Prelude.{ℕ, cond, List, codes, ◌==◌}

abbrev pub cause_full : ℕ
cause_full = 1

abbrev pub cause_fault : ℕ
cause_fault = 2

abbrev pub cause_name : ℕ → List ℕ
cause_name n = cond (n == cause_full) (codes "full") (cond (n == cause_fault) (codes "fault") (codes "another cause"))
