-- Stretches of numbers, counts in them, and the frames at these numbers. Assumes nothing.
use Rattle.std.proofs.Common.{◌≡◌, ℕ, zero, suc, ◌+◌, ◌-◌, ◌*◌, ◌/◌, ◌%◌, ◌<◌, ◌≤◌, ◌&&◌, eqb, ltb, leb, ◌≢◌, List, [], ◌∷◌, ◌++◌, map, length, get_or, take, drop, sym, refl, ap, ◌∙◌, inl, inr, add-zero, add_assoc, add-suc, mod-eq_of_lt, suc-add, mul-le-mul_left, zero-add, mul-suc, arith, drop-cons}
use native.Mathlib.Nat.{div-add-mod, mod-add-mod}
use Rattle.std.proofs.lemmas.Bool.Decides.{nat_tests}
use Rattle.std.proofs.lemmas.Bool.{cases_eq, cases_lt}
use Rattle.std.proofs.lemmas.List.{get_or_append_left}
use Rattle.frames.specs.declared.frame.Frame.{Frame}
use Rattle.frames.specs.Samples.{silence}
use Rattle.account.specs.Numbers.{numbers, bit, times, lies}
use Rattle.calls.specs.declared.entry.Entry.{Entry}

pub length_numbers : (n k : ℕ) → length (numbers n k) ≡ k
length_numbers n zero = refl
length_numbers n (suc k) = ap suc (length_numbers (suc n) k)

pub numbers_split : (n j k : ℕ) → numbers n j ++ numbers (n + j) k ≡ numbers n (j + k)
numbers_split n zero k = ap (λ x. numbers x k) (add-zero n) ∙ ap (numbers n) (sym (zero-add k))
numbers_split n (suc j) k =
    ap (λ x. n ∷ x) (ap (λ x. numbers (suc n) j ++ numbers x k) (add-suc n j ∙ sym (suc-add n j)) ∙ numbers_split (suc n) j k) ∙ ap (numbers n) (sym (suc-add j k))

pub take_numbers : (n k j : ℕ) → k ≤ j → take k (numbers n j) ≡ numbers n k
take_numbers n zero j h = refl
take_numbers n (suc k) zero h = absurd (omega arith)
take_numbers n (suc k) (suc j) h = ap (λ x. n ∷ x) (take_numbers (suc n) k j (omega arith))

pub drop_numbers : (n k j : ℕ) → k ≤ j → drop k (numbers n j) ≡ numbers (n + k) (j - k)
drop_numbers n zero j h = ap (λ x. numbers x j) (sym (add-zero n)) ∙ ap (numbers (n + 0)) (omega arith)
drop_numbers n (suc k) zero h = absurd (omega arith)
drop_numbers n (suc k) (suc j) h =
    drop_numbers (suc n) k j (omega arith) ∙ ap (λ x. numbers x (j - k)) (suc-add n k ∙ sym (add-suc n k)) ∙ ap (numbers (n + suc k)) (omega arith)

pub times_append : (n : ℕ) (xs ys : List ℕ) → times n (xs ++ ys) ≡ times n xs + times n ys
times_append n [] ys = sym (zero-add (times n ys))
times_append n (x ∷ xs) ys = ap (λ y. bit (eqb n x) + y) (times_append n xs ys) ∙ sym (add_assoc (bit (eqb n x)) (times n xs) (times n ys))

pub lies_append : (n : ℕ) (xs ys : List Entry) → lies n (xs ++ ys) ≡ lies n xs + lies n ys
lies_append n [] ys = sym (zero-add (lies n ys))
lies_append n (x ∷ xs) ys = ap (λ y. bit (leb x.first n && ltb n (x.first + x.lost)) + y) (lies_append n xs ys) ∙ sym (add_assoc _ (lies n xs) (lies n ys))

pub times_before : (x n k : ℕ) → x < n → times x (numbers n k) ≡ 0
times_before x n zero h = refl
times_before x n (suc k) h = let rest : times x (numbers (suc n) k) ≡ 0 = times_before x (suc n) k (omega arith) in grind (arith, nat_tests, rest)

pub times_inside : (x n k : ℕ) → n ≤ x → x < n + k → times x (numbers n k) ≡ 1
times_inside x n zero h l = absurd (omega arith)
times_inside x n (suc k) h l =
    elim (cases_eq x n) [
      | inl e ↦ let rest : times x (numbers (suc n) k) ≡ 0 = times_before x (suc n) k (omega arith) in grind (arith, nat_tests, rest)
      | inr ne ↦ let rest : times x (numbers (suc n) k) ≡ 1 = times_inside x (suc n) k (omega arith) (omega arith) in grind (arith, nat_tests, rest)
    ]

pub times_after : (x n k : ℕ) → n + k ≤ x → times x (numbers n k) ≡ 0
times_after x n zero h = refl
times_after x n (suc k) h = let rest : times x (numbers (suc n) k) ≡ 0 = times_after x (suc n) k (omega arith) in grind (arith, nat_tests, rest)

-- places of numbers less than s apart differ
pub places_differ : (s x y : ℕ) → 0 < s → x < y → y < x + s → x % s ≢ y % s
places_differ s x y pos lt near same =
    let dx : s * (x / s) + x % s ≡ x = div-add-mod x s in
    let dy : s * (y / s) + y % s ≡ y = div-add-mod y s in
    elim (cases_lt (x / s) (y / s)) [
      | inl l ↦ let m : s * suc (x / s) ≤ s * (y / s) = mul-le-mul_left s l in omega (arith, mul-suc s (x / s))
      | inr g ↦ let m : s * (y / s) ≤ s * (x / s) = mul-le-mul_left s g in omega arith
    ]

-- frames committed later don't change those at earlier numbers
pub map_get_or_append : (c d : List Frame) (xs : List ℕ) → ((x : ℕ) → length c ≤ x → times x xs ≡ 0) → map (λ x. get_or (c ++ d) x silence) xs ≡ map (λ x. get_or c x silence) xs
map_get_or_append c d [] none = refl
map_get_or_append c d (x ∷ xs) none =
    let inside : x < length c = elim (cases_lt x (length c)) [ inl l ↦ l | inr g ↦ absurd (let z = none x g in grind (arith, nat_tests)) ] in
    ap (λ y. y ∷ map (λ x. get_or (c ++ d) x silence) xs) (get_or_append_left c d silence x inside)
    ∙ ap (λ y. get_or c x silence ∷ y) (map_get_or_append c d xs (λ y g. let z = none y g in grind (arith, nat_tests)))

-- a place of an area that does not pass the ring's end is the place of a number
pub place_of : (s a j : ℕ) → a % s + j < s → (a + j) % s ≡ a % s + j
place_of s a j inside = sym (mod-add-mod a s j) ∙ mod-eq_of_lt inside

-- what stands in a stretch of numbers is one of them
pub times_within : (x n k : ℕ) → 0 < times x (numbers n k) → (n ≤ x) × (x < n + k)
times_within x n k some =
    elim (cases_lt x n) [
      | inl l ↦ absurd (omega (arith, times_before x n k l))
      | inr g ↦ elim (cases_lt x (n + k)) [ inl l ↦ (g, l) | inr h ↦ absurd (omega (arith, times_after x n k h)) ]
    ]

-- the frames from number f on, n of them
pub frames_numbered : (fs : List Frame) (f n : ℕ) → f + n ≤ length fs → take n (drop f fs) ≡ map (λ x. get_or fs x silence) (numbers f n)
frames_numbered fs f zero h = refl
frames_numbered fs f (suc n) h =
    let inside : f < length fs = omega arith in
    ap (take (suc n)) (drop-cons fs f silence inside) ∙ ap (λ xs. get_or fs f silence ∷ xs) (frames_numbered fs (suc f) n (omega arith))
