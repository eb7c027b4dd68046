-- The rule of doubling, in closed form, and that it keeps multiples.
use Rattle.std.proofs.Common.{◌≡◌, ℕ, zero, suc, ◌+◌, ◌-◌, ◌*◌, ◌%◌, ◌^◌, ◌<◌, ◌≤◌, true, false, cond, leb, sym, ap, ◌∙◌, inl, inr, mul-le-mul_right, mod-eq_of_lt, mul_assoc, mul_comm, mul-le-mul_left, mul-lt-mul_of_pos_right, pow-suc, mul-one, arith, pow_pos, pow_mono, pow-add}
use native.Mathlib.Nat.{mul-mod_right}
use Rattle.std.proofs.lemmas.Bool.{le-leb, lt-leb, cond-true, cond-false, cases_lt}
use Rattle.std.proofs.lemmas.Nat.{leading_top}
use lib.Count.{count_leading_zeros}
use Rattle.geometry.specs.Boundary.{doubled_while, boundary_for}
use Rattle.geometry.specs.Laws.{Size}
use Rattle.geometry.specs.Rules.{Wraps}

pub doubled_is : (k fuel top b : ℕ) → k < fuel → b * 2 ^ k ≤ top → top < 2 * (b * 2 ^ k) → doubled_while fuel top b ≡ b * 2 ^ k
unfolding doubled_while
doubled_is k zero top b f low high = absurd (omega arith)
doubled_is zero (suc fuel) top b f low high =
    let e : b * 2 ^ 0 ≡ b = mul-one b in
    let past : top < 2 * b = omega arith in
    cond-false (leb (2 * b) top) (doubled_while fuel top (2 * b)) b (lt-leb (2 * b) top past) ∙ sym e
doubled_is (suc k) (suc fuel) top b f low high =
    let e : b * 2 ^ suc k ≡ (2 * b) * 2 ^ k = ap (λ (x : ℕ). b * x) (pow-suc 2 k) ∙ omega (arith, mul_assoc b (2 ^ k) 2, mul_assoc 2 b (2 ^ k)) in
    let p : 0 < 2 ^ k = pow_pos k in
    let w : (2 * b) * 1 ≤ (2 * b) * 2 ^ k = mul-le-mul_left (2 * b) p in
    let fits : 2 * b ≤ top = omega arith in
    cond-true (leb (2 * b) top) (doubled_while fuel top (2 * b)) b (le-leb (2 * b) top fits)
    ∙ doubled_is k fuel top (2 * b) (omega arith) (omega arith) (omega arith)
    ∙ sym e

pub doubled_times : (fuel top b s q : ℕ) → b ≡ s * q → (n : ℕ) × (doubled_while fuel top b ≡ s * n)
unfolding doubled_while
doubled_times zero top b s q h = (q, h)
doubled_times (suc fuel) top b s q h =
    let e : 2 * b ≡ s * (2 * q) =
    ap (λ (x : ℕ). 2 * x) h ∙ sym (mul_assoc 2 s q) ∙ ap (λ (x : ℕ). x * q) (mul_comm 2 s) ∙ mul_assoc s 2 q in
    elim (leb (2 * b) top) as (λ v. (n : ℕ) × (cond v (doubled_while fuel top (2 * b)) b ≡ s * n))
    [ true ↦ doubled_times fuel top (2 * b) s (2 * q) e | false ↦ (q, h) ]

-- the buffer goes into the boundary without rest
pub boundary_whole : (s : ℕ) → boundary_for s % s ≡ 0
unfolding boundary_for
boundary_whole s =
    let t = doubled_times 31 (2147483647 - s) s s 1 (sym (mul-one s)) in ap (λ (x : ℕ). x % s) t.1 ∙ mul-mod_right s t.0

-- a buffer shifted until its highest bit is bit 30
pub raised : (s : ℕ) → 2 ≤ s → s ≤ 65536 → (d : ℕ) × (count_leading_zeros 32 s ≡ d + 2) × (d < 30) × (2 ^ 30 ≤ s * 2 ^ (d + 1)) × (s * 2 ^ (d + 1) < 2 ^ 31) × (s * 2 ^ (d + 1) ≡ 2 * (s * 2 ^ d))
raised s low high =
    let small : s < 2 ^ 32 = omega arith in
    let t = leading_top 32 s (omega arith) small in
    let j : ℕ = t.0 in
    let sum : count_leading_zeros 32 s + suc j ≡ 32 = t.1 in
    let below : 2 ^ j ≤ s = t.2 in
    let above : s < 2 ^ suc j = t.3 in
    let few : j < 17 = elim (cases_lt j 17) [ inl h ↦ h | inr h ↦ let big : 2 ^ 17 ≤ 2 ^ j = pow_mono h in absurd (omega arith) ] in
    let d : ℕ = 29 - j in
    let ex : j + (d + 1) ≡ 30 = omega arith in
    let one : 2 ^ j * 2 ^ (d + 1) ≡ 2 ^ 30 = sym (pow-add 2 j (d + 1)) ∙ ap (λ (x : ℕ). 2 ^ x) ex in
    let half : 2 ^ (d + 1) ≡ 2 ^ d * 2 = pow-add 2 d 1 in
    let lower : 2 ^ j * 2 ^ (d + 1) ≤ s * 2 ^ (d + 1) = mul-le-mul_right (2 ^ (d + 1)) below in
    let upper : s * 2 ^ (d + 1) < 2 ^ suc j * 2 ^ (d + 1) = mul-lt-mul_of_pos_right above (pow_pos (d + 1)) in
    let ex' : suc j + (d + 1) ≡ 31 = omega arith in
    let two : 2 ^ suc j * 2 ^ (d + 1) ≡ 2 ^ 31 = sym (pow-add 2 (suc j) (d + 1)) ∙ ap (λ (x : ℕ). 2 ^ x) ex' in
    let same : s * 2 ^ (d + 1) ≡ 2 * (s * 2 ^ d) = ap (λ (x : ℕ). s * x) half ∙ sym (mul_assoc s (2 ^ d) 2) ∙ mul_comm (s * 2 ^ d) 2 in
    (d, omega arith, omega arith, omega arith, omega arith, same)

pub boundary_straight : (s : ℕ) → 2 ≤ s → s ≤ 65536 → (s * 2 ^ (count_leading_zeros 32 s - 1)) % 4294967296 ≤ 2147483647 - s
    → (s * 2 ^ (count_leading_zeros 32 s - 1)) % 4294967296 ≡ boundary_for s
unfolding boundary_for
boundary_straight s low high fits =
    let t = raised s low high in
    let d : ℕ = t.0 in
    let e : count_leading_zeros 32 s - 1 ≡ d + 1 = omega (arith, t.1) in
    let x : ℕ = s * 2 ^ (d + 1) in
    let same : s * 2 ^ (count_leading_zeros 32 s - 1) ≡ x = ap (λ (n : ℕ). s * 2 ^ n) e in
    let whole : (s * 2 ^ (count_leading_zeros 32 s - 1)) % 4294967296 ≡ x = ap (λ (n : ℕ). n % 4294967296) same ∙ mod-eq_of_lt (omega (arith, t.4)) in
    whole ∙ sym (doubled_is (d + 1) 31 (2147483647 - s) s (omega (arith, t.2)) (omega arith) (omega (arith, t.3)))

pub boundary_corrected : (s : ℕ) → 2 ≤ s → s ≤ 65536 → 2147483647 - s < (s * 2 ^ (count_leading_zeros 32 s - 1)) % 4294967296
    → (s * 2 ^ (count_leading_zeros 32 s - 1 - 1)) % 4294967296 ≡ boundary_for s
unfolding boundary_for
boundary_corrected s low high past =
    let t = raised s low high in
    let d : ℕ = t.0 in
    let e : count_leading_zeros 32 s - 1 ≡ d + 1 = omega (arith, t.1) in
    let e' : count_leading_zeros 32 s - 1 - 1 ≡ d = omega (arith, t.1) in
    let x : ℕ = s * 2 ^ (d + 1) in
    let y : ℕ = s * 2 ^ d in
    let same : s * 2 ^ (count_leading_zeros 32 s - 1) ≡ x = ap (λ (n : ℕ). s * 2 ^ n) e in
    let same' : s * 2 ^ (count_leading_zeros 32 s - 1 - 1) ≡ y = ap (λ (n : ℕ). s * 2 ^ n) e' in
    let whole : (s * 2 ^ (count_leading_zeros 32 s - 1)) % 4294967296 ≡ x = ap (λ (n : ℕ). n % 4294967296) same ∙ mod-eq_of_lt (omega (arith, t.4)) in
    let whole' : (s * 2 ^ (count_leading_zeros 32 s - 1 - 1)) % 4294967296 ≡ y = ap (λ (n : ℕ). n % 4294967296) same' ∙ mod-eq_of_lt (omega (arith, t.4, t.5)) in
    whole' ∙ sym (doubled_is d 31 (2147483647 - s) s (omega (arith, t.2)) (omega (arith, t.4, t.5)) (omega (arith, t.5)))

-- the boundary is the buffer doubled k times, within the limit, and once more would pass it
pub boundary_is : (s : ℕ) → Size s → (k : ℕ) × (boundary_for s ≡ s * 2 ^ k) × (s * 2 ^ k ≤ 2147483647 - s) × (2147483647 - s < 2 * (s * 2 ^ k))
unfolding boundary_for
boundary_is s z =
    let t = raised s z.0 z.1 in
    let d : ℕ = t.0 in
    let x : ℕ = s * 2 ^ (d + 1) in
    let y : ℕ = s * 2 ^ d in
    let few : d < 30 = t.2 in
    let low : 2 ^ 30 ≤ x = t.3 in
    let high : x < 2 ^ 31 = t.4 in
    let twice : x ≡ 2 * y = t.5 in
    elim (cases_lt (2147483647 - s) x) [
      | inl h ↦ (d, doubled_is d 31 (2147483647 - s) s (omega arith) (omega arith) (omega arith), omega arith, omega arith)
      | inr h ↦ (d + 1, doubled_is (d + 1) 31 (2147483647 - s) s (omega arith) (omega arith) (omega arith), omega arith, omega arith)
    ]

pub boundary_rule : (s : ℕ) → Size s → ((k : ℕ) × (boundary_for s ≡ s * 2 ^ k)) × (boundary_for s ≤ 2147483647 - s) × (2147483647 - s < 2 * boundary_for s)
boundary_rule s z =
    let t = boundary_is s z in
    let e : boundary_for s ≡ s * 2 ^ t.0 = t.1 in
    let low : s * 2 ^ t.0 ≤ 2147483647 - s = t.2 in
    let high : 2147483647 - s < 2 * (s * 2 ^ t.0) = t.3 in
    ((t.0, e), omega arith, omega arith)

pub boundary_wraps : (s : ℕ) → Size s → Wraps s (boundary_for s)
boundary_wraps s z =
    let t = boundary_rule s z in
    let low : boundary_for s ≤ 2147483647 - s = t.1 in
    let high : 2147483647 - s < 2 * boundary_for s = t.2 in
    (omega (arith, z.0, z.1), omega (arith, z.0, z.1), boundary_whole s)
