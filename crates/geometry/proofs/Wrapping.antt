-- Sums that wrap at a boundary.
use Rattle.std.proofs.Common.{◌≡◌, ℕ, ◌+◌, ◌-◌, ◌*◌, ◌/◌, ◌%◌, ◌<◌, ◌≤◌, sym, ap, ◌∙◌, mod-lt, mod-eq_of_lt, add-mul, div-add-mod', arith}
use native.Mathlib.Nat.{mod-mod, mod-add-mod, add-mul-mod_self_right, mod-mod_of_dvd, dvd_of_mod-eq-zero}
use Rattle.std.proofs.lemmas.Nat.{le-div}
use Rattle.geometry.specs.Boundary.{boundary_for}
use Rattle.geometry.specs.Laws.{Size}
use Rattle.geometry.specs.Pointers.{pointer_of, place_of, playback_avail, capture_avail}
use Rattle.geometry.proofs.Doubling.{boundary_wraps}

-- two numbers that are whole boundaries apart
pub mod_apart : (x y k b : ℕ) → x ≡ y + k * b → x % b ≡ y % b
mod_apart x y k b e = ap (λ (n : ℕ). n % b) e ∙ add-mul-mod_self_right y k b

-- what is free, for any boundary past the buffer
pub free_of : (s b h a : ℕ) → s < b → h ≤ a → a - h ≤ s → playback_avail s b (h % b) (a % b) ≡ s - (a - h)
free_of s b h a sb ha w =
    let q : ℕ = a / b in
    let p : ℕ = h / b in
    let ea : q * b + a % b ≡ a = div-add-mod' a b in
    let eh : p * b + h % b ≡ h = div-add-mod' h b in
    let le : p ≤ q = le-div p a b (omega arith) (omega arith) in
    let d : ℕ = q - p in
    let eq : q ≡ p + d = omega arith in
    let eqb : q * b ≡ p * b + d * b = ap (λ (n : ℕ). n * b) eq ∙ add-mul p d b in
    let one : (1 + d) * b ≡ 1 * b + d * b = add-mul 1 d b in
    let small : a % b < b = mod-lt a (omega arith) in
    let same : (a % b) % b ≡ a % b = mod-mod a b in
    mod_apart (h % b + s + (b - (a % b) % b)) (s - (a - h)) (1 + d) b (omega arith) ∙ mod-eq_of_lt (omega arith)

-- what is unread, for any boundary past the buffer
pub unread_of : (b u w : ℕ) → w < b → capture_avail b ((u + w) % b) (u % b) ≡ w
unread_of b u w wb =
    let q : ℕ = (u + w) / b in
    let p : ℕ = u / b in
    let ea : q * b + (u + w) % b ≡ u + w = div-add-mod' (u + w) b in
    let eh : p * b + u % b ≡ u = div-add-mod' u b in
    let le : p ≤ q = le-div p (u + w) b (omega arith) (omega arith) in
    let d : ℕ = q - p in
    let eq : q ≡ p + d = omega arith in
    let eqb : q * b ≡ p * b + d * b = ap (λ (n : ℕ). n * b) eq ∙ add-mul p d b in
    let small : u % b < b = mod-lt u (omega arith) in
    let same : (u % b) % b ≡ u % b = mod-mod u b in
    let x : ℕ = (u + w) % b + (b - (u % b) % b) in
    sym (mod_apart (w + 1 * b) x d b (omega arith)) ∙ add-mul-mod_self_right w 1 b ∙ mod-eq_of_lt wb

pub place_by_pointer : (s number : ℕ) → Size s → place_of s (pointer_of (boundary_for s) number) ≡ place_of s number
place_by_pointer s number z = mod-mod_of_dvd s number (dvd_of_mod-eq-zero s (boundary_wraps s z).2)

pub pointer_moves : (boundary count n : ℕ) → pointer_of boundary (pointer_of boundary count + n) ≡ pointer_of boundary (count + n)
pointer_moves boundary count n = mod-add-mod count boundary n

pub playback_free : (s h a : ℕ) → Size s → h ≤ a → a - h ≤ s
    → playback_avail s (boundary_for s) (pointer_of (boundary_for s) h) (pointer_of (boundary_for s) a) ≡ s - (a - h)
playback_free s h a z =
    let w = boundary_wraps s z in free_of s (boundary_for s) h a (omega (arith, z.0, w.0))

pub captured_unread : (s u w : ℕ) → Size s → w ≤ s
    → capture_avail (boundary_for s) (pointer_of (boundary_for s) (u + w)) (pointer_of (boundary_for s) u) ≡ w
captured_unread s u w z l =
    let e = boundary_wraps s z in unread_of (boundary_for s) u w (omega (arith, z.0, e.0))

pub playback_rule : (s boundary h a : ℕ) → a < boundary
    → (playback_avail s boundary h a ≡ (h + s + boundary - a) % boundary) × (a ≤ h + s → playback_avail s boundary h a ≡ (h + s - a) % boundary)
playback_rule s boundary h a l =
    let e : a % boundary ≡ a = mod-eq_of_lt l in
    let x : h + s + (boundary - a % boundary) ≡ h + s + boundary - a = omega arith in
    (ap (λ (n : ℕ). n % boundary) x, λ le. mod_apart (h + s + (boundary - a % boundary)) (h + s - a) 1 boundary (omega arith))

pub capture_rule : (boundary h a : ℕ) → a < boundary
    → (capture_avail boundary h a ≡ (h + boundary - a) % boundary) × (a ≤ h → capture_avail boundary h a ≡ (h - a) % boundary)
capture_rule boundary h a l =
    let e : a % boundary ≡ a = mod-eq_of_lt l in
    let x : h + (boundary - a % boundary) ≡ h + boundary - a = omega arith in
    (ap (λ (n : ℕ). n % boundary) x, λ le. mod_apart (h + (boundary - a % boundary)) (h - a) 1 boundary (omega arith))
