-- Bounds on sums of signed numbers. Assumes nothing.
use Rattle.std.proofs.Common.{◌+◌, ◌^◌, ◌<◌, ◌≤◌, ℤ, ◌+ℤ◌, nat_abs, arith, w64, SFits}
use Rattle.std.proofs.lemmas.Int.{ints}

pub abs_add : (a b : ℤ) → nat_abs (a +ℤ b) ≤ nat_abs a + nat_abs b
abs_add a b = grind (arith, ints)

pub abs_fits : (z : ℤ) → nat_abs z < 2 ^ 63 → SFits w64 z
abs_fits z h = record { sfits = grind (arith, ints) }
