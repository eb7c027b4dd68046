-- A delay line in which each input stands twice, one input later. Assumes nothing.
use Rattle.std.proofs.Common.{◌≡◌, ℕ, zero, suc, ◌+◌, ◌<◌, ◌≢◌, ◌⊎◌, List, ◌∷◌, length, get_or, take, drop, set, replicate, ℤ, pos, sym, ap, ◌∙◌, inl, inr, arith}
use Rattle.std.proofs.lemmas.List.{length-set, length-take, length-drop, get_or-set_same, get_or-set_other, get_or-take, get_or-drop, get_or-replicate, ext_get_or}
use Rattle.frames.specs.Mirror.{Mirrored, recent}

-- an input written at both of its places
abbrev pub placed : List ℤ → ℕ → ℤ → List ℤ
placed xs at x = set (set xs at x) (at + 32) x

-- the place in front of another, round the 32
abbrev pub InFront : ℕ → ℕ → Type 0
InFront at' at = ((at ≡ 0) × (at' ≡ 31)) ⊎ (at' + 1 ≡ at)

at_first : (xs : List ℤ) (at : ℕ) (x : ℤ) → at < 32 → length xs ≡ 64 → get_or (placed xs at x) at (pos 0) ≡ x
at_first xs at x h e =
    let ne : at ≢ at + 32 = omega arith in
    let lt : at < length xs = omega arith in
    get_or-set_other (set xs at x) (at + 32) at x (pos 0) ne ∙ get_or-set_same xs at x (pos 0) lt

elsewhere : (xs : List ℤ) (at i : ℕ) (x : ℤ) → i ≢ at → i ≢ at + 32 → get_or (placed xs at x) i (pos 0) ≡ get_or xs i (pos 0)
elsewhere xs at i x p q = get_or-set_other (set xs at x) (at + 32) i x (pos 0) q ∙ get_or-set_other xs at i x (pos 0) p

get_or_recent : (i k : ℕ) (xs : List ℤ) → k < 32 → get_or (recent i xs) k (pos 0) ≡ get_or xs (i + k) (pos 0)
get_or_recent i k xs h = get_or-take 32 (drop i xs) k (pos 0) h ∙ get_or-drop i xs k (pos 0)

length_recent : (i : ℕ) (xs : List ℤ) → i < 32 → length xs ≡ 64 → length (recent i xs) ≡ 32
length_recent i xs h e = length-take 32 (drop i xs) ∙ omega (arith, length-drop i xs)

round : (at j : ℕ) → at ≡ 31 → at + suc j ≡ j + 32
round at j e = omega arith

start : (at j : ℕ) → at ≡ 0 → j ≡ at + j
start at j e = omega arith

next : (at at' j : ℕ) → at' + 1 ≡ at → at' + suc j ≡ at + j
next at at' j e = omega arith

one_later : (xs : List ℤ) (at at' j : ℕ) (x : ℤ) → at' < 32 → j < 31 → Mirrored xs → InFront at' at → get_or (placed xs at' x) (at' + suc j) (pos 0) ≡ get_or xs (at + j) (pos 0)
one_later xs at at' j x h l m (inl p) =
    elsewhere xs at' (at' + suc j) x (omega arith) (omega arith)
    ∙ ap (λ k. get_or xs k (pos 0)) (round at' j p.1) ∙ m j (omega arith) ∙ ap (λ k. get_or xs k (pos 0)) (start at j p.0)
one_later xs at at' j x h l m (inr p) = elsewhere xs at' (at' + suc j) x (omega arith) (omega arith) ∙ ap (λ k. get_or xs k (pos 0)) (next at at' j p)

shifted_at : (xs : List ℤ) (at at' k : ℕ) (x : ℤ) → at < 32 → at' < 32 → length xs ≡ 64 → Mirrored xs → InFront at' at → k < 32
    → get_or (recent at' (placed xs at' x)) k (pos 0) ≡ get_or (take 32 (x ∷ recent at xs)) k (pos 0)
shifted_at xs at at' zero x h h' e m p l =
    let z : at' + 0 ≡ at' = omega arith in
    get_or_recent at' 0 (placed xs at' x) l ∙ ap (λ k. get_or (placed xs at' x) k (pos 0)) z ∙ at_first xs at' x h' e
shifted_at xs at at' (suc j) x h h' e m p l =
    get_or_recent at' (suc j) (placed xs at' x) l ∙ one_later xs at at' j x h' (omega arith) m p
    ∙ sym (get_or-take 32 (x ∷ recent at xs) (suc j) (pos 0) l ∙ get_or_recent at j xs (omega arith))

-- the newest input stands first, and the oldest is gone
pub recent_placed : (xs : List ℤ) (at at' : ℕ) (x : ℤ) → at < 32 → at' < 32 → length xs ≡ 64 → Mirrored xs → InFront at' at
    → recent at' (placed xs at' x) ≡ take 32 (x ∷ recent at xs)
recent_placed xs at at' x h h' e m p =
    let l : length (placed xs at' x) ≡ 64 = length-set (set xs at' x) (at' + 32) x ∙ length-set xs at' x ∙ e in
    let a : length (recent at' (placed xs at' x)) ≡ 32 = length_recent at' (placed xs at' x) h' l in
    let b : length (take 32 (x ∷ recent at xs)) ≡ 32 = length-take 32 (x ∷ recent at xs) ∙ omega (arith, length_recent at xs h e) in
    ext_get_or (pos 0) (recent at' (placed xs at' x)) (take 32 (x ∷ recent at xs)) (a ∙ sym b) (λ k lt. shifted_at xs at at' k x h h' e m p (omega arith))

pub silent_mirrored : Mirrored (replicate 64 (pos 0))
silent_mirrored i h = get_or-replicate 64 (i + 32) (pos 0) (pos 0) (omega arith) ∙ sym (get_or-replicate 64 i (pos 0) (pos 0) (omega arith))
