-- A part of a memory that was written over. Assumes nothing.
use Rattle.std.proofs.Common.{◌≡◌, ℕ, ◌+◌, ◌-◌, ◌≤◌, min, List, [], ◌++◌, length, take, drop, sym, ap, ◌∙◌, inl, inr, arith}
use lib.Seq.{paste}
use Rattle.std.proofs.lemmas.Bool.{cases_lt}
use Rattle.std.proofs.lemmas.List.{append_assoc, drop-drop, take-append-drop, length-append, length-take, length-take-le, length-drop, take_all, drop_all, drop_at, take_at, append-nil, nil_from_length}

behind : {X : Type 0} (host : List X) (x n : ℕ) → take n (drop x host) ++ drop (x + length (take n (drop x host))) host ≡ drop x host
behind host x n =
    let part = take n (drop x host) in
    ap (λ z. part ++ z) (sym (drop-drop (length part) x host))
    ∙ elim (cases_lt n (length (drop x host))) [
      | inl l ↦ ap (λ k. part ++ drop k (drop x host)) (length-take-le n (drop x host) (omega arith)) ∙ take-append-drop n (drop x host)
      | inr g ↦
          let whole = take_all n (drop x host) g in
          ap (λ z. z ++ drop (length z) (drop x host)) whole ∙ ap (λ z. drop x host ++ z) (drop_all (length (drop x host)) (drop x host) (omega arith)) ∙ append-nil (drop x host)
    ]

pub area_written : {X : Type 0} (host part : List X) (x n : ℕ) → length part ≡ length (take n (drop x host)) → take n (drop x (paste host x part (length part))) ≡ part
area_written host part x n long =
    let len : length part ≡ min n (length host - x) = long ∙ length-take n (drop x host) ∙ ap (min n) (length-drop x host) in
    elim (cases_lt (length host) x) [
      | inl past ↦
          let none : part ≡ [] = nil_from_length part (omega arith) in
          let one = length-append (take x host ++ take (length part) part) (drop (x + length part) host) in
          let two = length-append (take x host) (take (length part) part) in
          let empty : length (paste host x part (length part)) ≤ x = omega (arith, one, two, length-take x host, length-take (length part) part, length-drop (x + length part) host) in
          ap (take n) (drop_all x (paste host x part (length part)) empty) ∙ sym (none ∙ sym (take_all n [] (omega arith)))
      | inr inside ↦
          let rest = drop (x + length part) host in
          ap (λ z. take n (drop x z)) (append_assoc (take x host) (take (length part) part) rest)
          ∙ ap (take n) (drop_at (take x host) (take (length part) part ++ rest) x (length-take-le x host inside))
          ∙ ap (λ z. take n (z ++ rest)) (take_all (length part) part (omega arith))
          ∙ elim (cases_lt (length part) n) [
            | inl less ↦ ap (λ z. take n (part ++ z)) (drop_all (x + length part) host (omega arith)) ∙ ap (take n) (append-nil part) ∙ take_all n part (omega arith)
            | inr full ↦ take_at part rest n (omega arith)
          ]
    ]

-- a part that is put back as it was changes nothing
pub put_back : {X : Type 0} (host : List X) (x n : ℕ) → paste host x (take n (drop x host)) (length (take n (drop x host))) ≡ host
put_back host x n =
    let part = take n (drop x host) in
    ap (λ z. (take x host ++ z) ++ drop (x + length part) host) (take_all (length part) part (omega arith))
    ∙ append_assoc (take x host) part (drop (x + length part) host)
    ∙ ap (λ z. take x host ++ z) (behind host x n)
    ∙ take-append-drop x host
