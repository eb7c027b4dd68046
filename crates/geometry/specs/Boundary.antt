-- boundary_for: the boundary of a buffer, the number at which the pointers of a stream wrap.
--   It begins as the buffer size s and is doubled as long as the double is at most 2147483647 - s.
-- doubled_while: a number after its doublings.
-- Assumes nothing.
use Rattle.std.specs.Prelude.{ℕ, zero, suc, ◌-◌, ◌*◌, cond, nat_le}

-- b, doubled as long as the double is at most top, in at most fuel steps
unfoldable pub doubled_while : ℕ → ℕ → ℕ → ℕ
doubled_while zero top b = b
doubled_while (suc fuel) top b = cond (nat_le (2 * b) top) (doubled_while fuel top (2 * b)) b

-- 31 steps are enough, since the 31st double of a buffer is past 2147483647
unfoldable pub boundary_for : ℕ → ℕ
boundary_for s = doubled_while 31 (2147483647 - s) s
