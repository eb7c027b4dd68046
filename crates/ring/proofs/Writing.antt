-- Writes to the places that a ring does not hold, as its owner does before they are taken in.
use Rattle.std.proofs.Common.{◌≡◌, ℕ, ◌+◌, ◌-◌, ◌%◌, ◌<◌, ◌≤◌, List, ◌++◌, length, get_or, take, drop, set, ap, ◌∙◌, inl, inr, arith}
use lib.Seq.{paste, length-paste, length_paste_head}
use Rattle.std.proofs.lemmas.List.{append_assoc, length-set, length-take-le, get_or-take, get_or-drop, get_or_append_left, get_or-append_right, get_or-set_other, take_at, drop_at}
use Rattle.ring.specs.Held.{held}
use Rattle.ring.proofs.Places.{place_cases, places_differ}
use Rattle.ring.proofs.Holding.{held_same, held_more, held_area}

module _ {T : Type 0} where
  -- an element written at a free place, the one j after the oldest
  pub held_set_free : (size o c j : ℕ) (m : List T) (x : T) → length m ≡ size → o < size → c ≤ j → j < size
      → held o c (set m ((o + j) % size) x) ≡ held o c m
  held_set_free size o c j m x e h l k =
      held_same size o c (set m ((o + j) % size) x) m (length-set m ((o + j) % size) x ∙ e) e h (omega arith)
      (λ i d b. get_or-set_other m ((o + j) % size) ((o + i) % size) x d (places_differ size o i j h (omega arith) k))

  pub get_or_paste_before : (m : List T) (at : ℕ) (xs : List T) (n : ℕ) → at ≤ length m → n ≤ length xs → (p : ℕ) (d : T) → p < at
      → get_or (paste m at xs n) p d ≡ get_or m p d
  get_or_paste_before m at xs n h l p d k =
      let head : length (take at m ++ take n xs) ≡ at + n = length_paste_head m at xs n h l in
      let front : length (take at m) ≡ at = length-take-le at m h in
      get_or_append_left (take at m ++ take n xs) (drop (at + n) m) d p (omega arith)
      ∙ get_or_append_left (take at m) (take n xs) d p (omega arith)
      ∙ get_or-take at m p d k

  pub get_or_paste_after : (m : List T) (at : ℕ) (xs : List T) (n : ℕ) → at ≤ length m → n ≤ length xs → (p : ℕ) (d : T) → at + n ≤ p
      → get_or (paste m at xs n) p d ≡ get_or m p d
  get_or_paste_after m at xs n h l p d k =
      let head : length (take at m ++ take n xs) ≡ at + n = length_paste_head m at xs n h l in
      get_or-append_right (take at m ++ take n xs) (drop (at + n) m) (at + n) p d head k
      ∙ get_or-drop (at + n) m (p - (at + n)) d
      ∙ ap (λ q. get_or m q d) (omega arith)

  -- what was written to an unbroken area is read from it
  pub held_paste : (m : List T) (at : ℕ) (xs : List T) (n : ℕ) → at + n ≤ length m → n ≤ length xs
      → held at n (paste m at xs n) ≡ take n xs
  held_paste m at xs n h l =
      let whole : length (paste m at xs n) ≡ length m = length-paste m at xs n h l in
      let front : length (take at m) ≡ at = length-take-le at m (omega arith) in
      let part : length (take n xs) ≡ n = length-take-le n xs l in
      held_area at n (paste m at xs n) (omega arith)
      ∙ ap (λ z. take n (drop at z)) (append_assoc (take at m) (take n xs) (drop (at + n) m))
      ∙ ap (take n) (drop_at (take at m) (take n xs ++ drop (at + n) m) at front)
      ∙ take_at (take n xs) (drop (at + n) m) n part

  -- an unbroken area of free places, from j after the oldest on, can be written
  pub held_paste_free : (size o c j n : ℕ) (m xs : List T) → length m ≡ size → o < size → c ≤ j → j + n ≤ size → (o + j) % size + n ≤ size → n ≤ length xs
      → held o c (paste m ((o + j) % size) xs n) ≡ held o c m
  held_paste_free size o c j n m xs e h l k f g =
      let at : ℕ = (o + j) % size in
      held_same size o c (paste m at xs n) m (length-paste m at xs n (omega arith) g ∙ e) e h (omega arith)
      (λ i d b.
      elim (place_cases size o i h (omega arith)) [
        | inl p ↦ elim (place_cases size o j h (omega arith)) [
          | inl q ↦ get_or_paste_before m at xs n (omega arith) g ((o + i) % size) d (omega (arith, p.1, q.1))
          | inr q ↦ get_or_paste_after m at xs n (omega arith) g ((o + i) % size) d (omega (arith, p.1, q.0, q.1))
        ]
        | inr p ↦ elim (place_cases size o j h (omega arith)) [
          | inl q ↦ get_or_paste_before m at xs n (omega arith) g ((o + i) % size) d (omega (arith, p.0, p.1, q.0, q.1))
          | inr q ↦ get_or_paste_before m at xs n (omega arith) g ((o + i) % size) d (omega (arith, p.0, p.1, q.0, q.1))
        ]
      ])

  -- written after the newest and taken in
  pub held_written : (size o c n : ℕ) (m xs : List T) → length m ≡ size → o < size → c + n ≤ size → (o + c) % size + n ≤ size → n ≤ length xs
      → held o (c + n) (paste m ((o + c) % size) xs n) ≡ held o c m ++ take n xs
  held_written size o c n m xs e h k f g =
      let at : ℕ = (o + c) % size in
      let z : List T = paste m at xs n in
      let lz : length z ≡ size = length-paste m at xs n (omega arith) g ∙ e in
      held_more size o c n z lz h k
      ∙ ap (λ y. y ++ held at n z) (held_paste_free size o c c n m xs e h (omega arith) k f g)
      ∙ ap (λ y. held o c m ++ y) (held_paste m at xs n (omega arith) g)
