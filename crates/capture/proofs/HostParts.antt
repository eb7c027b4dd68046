-- The part of a host's memory from a place on, as far as the memory goes. Assumes nothing.
use Rattle.std.proofs.Common.{◌≡◌, ℕ, ◌+◌, ◌-◌, min, List, [], ◌++◌, length, take, drop, sym, refl, ap, ◌∙◌, inl, inr, arith}
use lib.Seq.{paste}
use Rattle.std.proofs.lemmas.Bool.{cases_lt}
use Rattle.std.proofs.lemmas.List.{length-drop, length-take, take_all, drop_all}
use Rattle.std.proofs.lemmas.Slice.{put_mid-paste}
use borrow.Rule.Slice.PartMut.{put_mid}

module _ {X : Type 0} (host : List X) (x n f e : ℕ) (is_f : f ≡ min (length host) x) (is_e : e ≡ min (length host) (x + n)) where
  -- the part between the two places is that from x on, n long at most
  pub part_is : take (e - f) (drop f host) ≡ take n (drop x host)
  part_is =
      elim (cases_lt (length host) x) [
        | inl past ↦
            let none : e - f ≡ 0 = omega arith in
            ap (λ k. take k (drop f host)) none ∙ sym (ap (take n) (drop_all x host (omega arith)) ∙ take_all n [] (omega arith))
        | inr inside ↦
            let at : f ≡ x = omega arith in
            ap (λ k. take (e - f) (drop k host)) at
            ∙ elim (cases_lt (length host - x) n) [
              | inl short ↦ take_all (e - f) (drop x host) (omega (arith, length-drop x host)) ∙ sym (take_all n (drop x host) (omega (arith, length-drop x host)))
              | inr enough ↦ let k : e - f ≡ n = omega arith in ap (λ k. take k (drop x host)) k
            ]
      ]

  pub part_long : length (take n (drop x host)) ≡ e - f
  part_long = length-take n (drop x host) ∙ omega (arith, length-drop x host)

  pub part_back : (part : List X) → length part ≡ e - f → put_mid f (e - f) host part ≡ paste host x part (length (take n (drop x host)))
  part_back part long =
      let L = length (take n (drop x host)) in
      put_mid-paste f (e - f) host part part L refl part_long (part_long ∙ sym long)
      ∙ elim (cases_lt (length host) x) [
        | inl past ↦
            let fronts : take f host ≡ take x host = take_all f host (omega arith) ∙ sym (take_all x host (omega arith)) in
            let backs : drop (f + L) host ≡ drop (x + L) host = drop_all (f + L) host (omega arith) ∙ sym (drop_all (x + L) host (omega arith)) in
            ap (λ z. (z ++ take L part) ++ drop (f + L) host) fronts ∙ ap (λ z. (take x host ++ take L part) ++ z) backs
        | inr inside ↦ let at : f ≡ x = omega arith in ap (λ k. paste host k part L) at
      ]
