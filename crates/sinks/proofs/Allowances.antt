-- How many frames a keep layer takes, by those that the sink below takes. Assumes nothing.
use Rattle.std.proofs.Common.{◌≡◌, ℕ, ◌+◌, ◌-◌, ◌*◌, ◌<◌, ◌≤◌, min, mul-le-mul_right, add-mul, one-mul, arith}

pub some_left : (b M fall k : ℕ) → 0 < b → 0 < M → 0 < k → 0 < min (b * M + fall) k
some_left b M fall k p m q =
    let one : 1 * M ≤ b * M = mul-le-mul_right M p in
    omega (arith, one-mul M)

pub one_less : (b b' M fall fall' k : ℕ) → fall ≡ 0 → fall' ≡ M - 1 → b ≤ b' + 1 → min (b * M + fall) k ≤ min (b' * M + fall') k + 1
one_less b b' M fall fall' k z e p =
    let most : b * M ≤ (b' + 1) * M = mul-le-mul_right M p in
    omega (arith, add-mul b' 1 M, one-mul M)
