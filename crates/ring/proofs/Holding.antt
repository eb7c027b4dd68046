-- The elements that a ring holds.
use Rattle.std.proofs.Common.{◌≡◌, ℕ, ◌+◌, ◌-◌, ◌%◌, ◌<◌, ◌≤◌, List, [], ◌∷◌, ◌++◌, length, get_or, take, drop, set, sym, ap, ◌∙◌, inl, inr, add_assoc, mod-lt, arith}
use native.Mathlib.Nat.{mod-add-mod}
use Rattle.std.proofs.lemmas.List.{length-drop, length-append, length-set, length_push, length-take-le, get_or-take, get_or-drop, get_or_append_left, get_or-append_right, get_or-set_same, get_or-set_other, get_or_push, same_lists, take-append-le, drop_more}
use Rattle.std.proofs.lemmas.Bool.{cases_lt, cases_eq}
use Rattle.ring.specs.Held.{held}
use Rattle.ring.proofs.Places.{place_cases, places_differ}

module _ {T : Type 0} where
  -- the memory read round is as long as the memory
  pub length_round : (o : ℕ) (m : List T) → o ≤ length m → length (drop o m ++ take o m) ≡ length m
  length_round o m h = length-append (drop o m) (take o m) ∙ omega (arith, length-drop o m, length-take-le o m h)

  pub length_held : (o c : ℕ) (m : List T) → o ≤ length m → c ≤ length m → length (held o c m) ≡ c
  length_held o c m h l =
      let r = length_round o m h in length-take-le c (drop o m ++ take o m) (omega arith)

  -- element i stands i places after the oldest
  pub get_or_held : (size o c : ℕ) (m : List T) → length m ≡ size → o < size → c ≤ size → (i : ℕ) (d : T) → i < c
      → get_or (held o c m) i d ≡ get_or m ((o + i) % size) d
  get_or_held size o c m e h l i d k =
      let ld : length (drop o m) ≡ size - o = length-drop o m ∙ omega arith in
      let t : get_or (held o c m) i d ≡ get_or (drop o m ++ take o m) i d = get_or-take c (drop o m ++ take o m) i d k in
      t
      ∙ elim (place_cases size o i h (omega arith)) [
        | inl a ↦ get_or_append_left (drop o m) (take o m) d i (omega (arith, a.0)) ∙ get_or-drop o m i d ∙ ap (λ p. get_or m p d) (sym a.1)
        | inr a ↦
            get_or-append_right (drop o m) (take o m) (size - o) i d ld (omega (arith, a.0))
            ∙ get_or-take o m (i - (size - o)) d (omega arith)
            ∙ ap (λ p. get_or m p d) (omega (arith, a.0, a.1))
      ]

  -- memories that agree at the places held hold the same
  pub held_same : (size o c : ℕ) (m n : List T) → length m ≡ size → length n ≡ size → o < size → c ≤ size
      → ((i : ℕ) (d : T) → i < c → get_or m ((o + i) % size) d ≡ get_or n ((o + i) % size) d) → held o c m ≡ held o c n
  held_same size o c m n e f h l agree =
      let lm : length (held o c m) ≡ c = length_held o c m (omega arith) (omega arith) in
      let ln : length (held o c n) ≡ c = length_held o c n (omega arith) (omega arith) in
      same_lists (held o c m) (held o c n) (omega arith)
      (λ i d k. get_or_held size o c m e h l i d (omega arith) ∙ agree i d (omega arith) ∙ sym (get_or_held size o c n f h l i d (omega arith)))

  -- an element written where the next one goes
  pub held_set : (size o c : ℕ) (m : List T) (x : T) → length m ≡ size → o < size → c < size
      → held o (c + 1) (set m ((o + c) % size) x) ≡ held o c m ++ x ∷ []
  held_set size o c m x e h l =
      let p : ℕ = (o + c) % size in
      let n : List T = set m p x in
      let f : length n ≡ size = length-set m p x ∙ e in
      let pl : p < length m = omega (arith, mod-lt (o + c) {m = size} (omega arith)) in
      let ln : length (held o (c + 1) n) ≡ c + 1 = length_held o (c + 1) n (omega arith) (omega arith) in
      let lm : length (held o c m) ≡ c = length_held o c m (omega arith) (omega arith) in
      let lp : length (held o c m ++ x ∷ []) ≡ length (held o c m) + 1 = length_push (held o c m) x in
      same_lists (held o (c + 1) n) (held o c m ++ x ∷ []) (omega arith)
      (λ i d k.
      get_or_held size o (c + 1) n f h (omega arith) i d (omega arith)
      ∙ elim (cases_eq i c) [
        | inl a ↦ ap (λ j. get_or n ((o + j) % size) d) a ∙ get_or-set_same m p x d pl ∙ sym (get_or_push (held o c m) x d i (omega arith))
        | inr a ↦
            get_or-set_other m p ((o + i) % size) x d (places_differ size o i c h (omega arith) l)
            ∙ sym (get_or_held size o c m e h (omega arith) i d (omega arith))
            ∙ sym (get_or_append_left (held o c m) (x ∷ []) d i (omega arith))
      ])

  -- the n oldest given up
  pub held_free : (size o c n : ℕ) (m : List T) → length m ≡ size → o < size → c ≤ size → n ≤ c
      → held ((o + n) % size) (c - n) m ≡ drop n (held o c m)
  held_free size o c n m e h l k =
      let p : ℕ = (o + n) % size in
      let pl : p < size = mod-lt (o + n) (omega arith) in
      let lm : length (held o c m) ≡ c = length_held o c m (omega arith) (omega arith) in
      let lh : length (held p (c - n) m) ≡ c - n = length_held p (c - n) m (omega arith) (omega arith) in
      let ld : length (drop n (held o c m)) ≡ length (held o c m) - n = length-drop n (held o c m) in
      same_lists (held p (c - n) m) (drop n (held o c m)) (omega arith)
      (λ i d j.
      get_or_held size p (c - n) m e pl (omega arith) i d (omega arith)
      ∙ ap (λ q. get_or m q d) (mod-add-mod (o + n) size i ∙ ap (λ q. q % size) (add_assoc o n i))
      ∙ sym (get_or_held size o c m e h l (n + i) d (omega arith))
      ∙ sym (get_or-drop n (held o c m) i d))

  -- the n places after the newest taken in
  pub held_more : (size o c n : ℕ) (m : List T) → length m ≡ size → o < size → c + n ≤ size
      → held o (c + n) m ≡ held o c m ++ held ((o + c) % size) n m
  held_more size o c n m e h l =
      let p : ℕ = (o + c) % size in
      let pl : p < size = mod-lt (o + c) (omega arith) in
      let la : length (held o (c + n) m) ≡ c + n = length_held o (c + n) m (omega arith) (omega arith) in
      let lm : length (held o c m) ≡ c = length_held o c m (omega arith) (omega arith) in
      let lp : length (held p n m) ≡ n = length_held p n m (omega arith) (omega arith) in
      let ls = length-append (held o c m) (held p n m) in
      same_lists (held o (c + n) m) (held o c m ++ held p n m) (omega arith)
      (λ i d j.
      get_or_held size o (c + n) m e h l i d (omega arith)
      ∙ elim (cases_lt i c) [
        | inl a ↦ sym (get_or_held size o c m e h (omega arith) i d a) ∙ sym (get_or_append_left (held o c m) (held p n m) d i (omega arith))
        | inr a ↦
            let s : (o + i) % size ≡ (p + (i - c)) % size = ap (λ q. q % size) (omega arith) ∙ sym (mod-add-mod (o + c) size (i - c)) in
            ap (λ q. get_or m q d) s
            ∙ sym (get_or_held size p n m e pl (omega arith) (i - c) d (omega arith))
            ∙ sym (get_or-append_right (held o c m) (held p n m) c i d lm a)
      ])

  pub held_places : (size o c : ℕ) (m : List T) → length m ≡ size → o < size → c ≤ size
      → (length (held o c m) ≡ c) × ((i : ℕ) (d : T) → i < c → get_or (held o c m) i d ≡ get_or m ((o + i) % size) d)
  held_places size o c m e h l = (length_held o c m (omega arith) (omega arith), get_or_held size o c m e h l)

  -- an unbroken area of the memory
  pub held_area : (o n : ℕ) (m : List T) → o + n ≤ length m → held o n m ≡ take n (drop o m)
  held_area o n m h = take-append-le n (drop o m) (take o m) (omega (arith, length-drop o m))

  -- the oldest, and the rest
  pub held_oldest : (size o c : ℕ) (m : List T) (d : T) → length m ≡ size → o < size → c ≤ size → 0 < c
      → held o c m ≡ get_or m o d ∷ held ((o + 1) % size) (c - 1) m
  held_oldest size o c m d e h l k =
      let one : held o 1 m ≡ get_or m o d ∷ [] = held_area o 1 m (omega arith) ∙ ap (take 1) (drop_more m o d (omega arith)) in
      let all : c ≡ 1 + (c - 1) = omega arith in
      ap (λ n. held o n m) all
      ∙ held_more size o 1 (c - 1) m e h (omega arith)
      ∙ ap (λ z. z ++ held ((o + 1) % size) (c - 1) m) one

  -- an element as it was read at its place
  pub held_at : (size o c i place : ℕ) (m : List T) (x : T) → length m ≡ size → o < size → c ≤ size → i < c → place ≡ (o + i) % size → x ≡ get_or m place x
      → x ≡ get_or (held o c m) i x
  held_at size o c i place m x e h l k p r = r ∙ ap (λ q. get_or m q x) p ∙ sym (get_or_held size o c m e h l i x k)
