-- Frames got from a source one by one, and stored in a ring. Assumes nothing.
use Rattle.std.proofs.Common.{◌≡◌, ℕ, zero, suc, ◌+◌, ◌-◌, ◌%◌, ◌<◌, ◌≤◌, min, List, [], ◌∷◌, ◌++◌, length, take, drop, set, Some, None, sym, refl, ap, ◌∙◌, subst, inl, inr, add-zero, add-suc, suc-add, add-one, arith}
use native.Mathlib.Nat.{mod-add-mod}
use Rattle.std.proofs.lemmas.Bool.{cases_lt}
use Rattle.std.proofs.lemmas.List.{length-take, length-take-le, length-drop, length-set, take_all, drop_all, take-take, drop-take, take-append-drop, append-nil}
use Rattle.frames.specs.declared.frame.Frame.{Frame}
use Rattle.sources.specs.Source.{SourcePoints, Gets, Gives}
use Rattle.sources.proofs.Chains.{chains_join}
use Rattle.account.specs.Capture.{stored}

got_next : {F : Type 0} (c : List F) (i : ℕ) (f : F) (rest : List F) → drop i c ≡ f ∷ rest
    → (i < length c) × (rest ≡ drop (suc i) c) × (take (suc i) c ≡ take i c ++ (f ∷ []))
got_next [] zero f rest e = absurd (let z : ◌≡◌ {A = ℕ} 0 1 = cc in omega arith)
got_next [] (suc i) f rest e = absurd (let z : ◌≡◌ {A = ℕ} 0 1 = cc in omega arith)
got_next (x ∷ c) zero f rest e = (omega arith, cc, cc)
got_next (x ∷ c) (suc i) f rest e = let more = got_next c i f rest e in (omega arith, more.1, ap (λ y. x ∷ y) more.2)

-- one frame more
pub got_more : {F : Type 0} (c : List F) (i : ℕ) (f : F) (rest : List F) → drop i c ≡ f ∷ rest
    → (i < length c) × (rest ≡ drop (i + 1) c) × (take (i + 1) c ≡ take i c ++ (f ∷ []))
got_more c i f rest e = let more = got_next c i f rest e in (more.0, rw add-one more.1, rw add-one more.2)

-- none is left
pub got_all : {F : Type 0} (c : List F) (i k : ℕ) → drop i c ≡ [] → i ≤ length c → i ≤ k → (take k c ≡ take i c) × (length (take i c) ≡ i) × (drop k c ≡ [])
got_all c i k e within asked =
    let whole : length c - i ≡ 0 = sym (length-drop i c) ∙ ap length e in
    (take_all k c (omega arith) ∙ sym (take_all i c (omega arith)), length-take-le i c within, drop_all k c (omega arith))

pub stored_more : (s : ℕ) (m : List Frame) (n : ℕ) (fs : List Frame) (f : Frame) → stored s m n (fs ++ (f ∷ [])) ≡ set (stored s m n fs) ((n + length fs) % s) f
stored_more s m n [] f = ap (λ (x : ℕ). set m (x % s) f) (sym (add-zero n))
stored_more s m n (x ∷ fs) f =
    stored_more s (set m (n % s) x) (suc n) fs f
    ∙ ap (λ (y : ℕ). set (stored s (set m (n % s) x) (suc n) fs) (y % s) f) (suc-add n (length fs) ∙ sym (add-suc n (length fs)))

pub length_stored : (s : ℕ) (m : List Frame) (n : ℕ) (fs : List Frame) → length (stored s m n fs) ≡ length m
length_stored s m n [] = refl
length_stored s m n (f ∷ fs) = length_stored s (set m (n % s) f) (suc n) fs ∙ length-set m (n % s) f

-- numbers with the same place store alike
next_place : (s n k : ℕ) → n % s ≡ k % s → suc n % s ≡ suc k % s
next_place s n k e =
    ap (λ (x : ℕ). x % s) (sym (add-one n)) ∙ sym (mod-add-mod n s 1) ∙ ap (λ (x : ℕ). (x + 1) % s) e ∙ mod-add-mod k s 1 ∙ ap (λ (x : ℕ). x % s) (add-one k)

pub stored_place : (s : ℕ) (m : List Frame) (n k : ℕ) (fs : List Frame) → n % s ≡ k % s → stored s m n fs ≡ stored s m k fs
stored_place s m n k [] e = refl
stored_place s m n k (f ∷ fs) e =
    stored_place s (set m (n % s) f) (suc n) (suc k) fs (next_place s n k e) ∙ ap (λ (x : ℕ). stored s (set m x f) (suc k) fs) e

-- the first frames that came into the room that there was, and the others after them
module _ {F : Type 0} (k room : ℕ) (c : List F) where
  pub first_came : take room (take k c) ≡ take (min k room) c
  first_came =
      elim (cases_lt room k) [
        | inl l ↦ let e : min k room ≡ room = omega arith in take-take room k c (omega arith) ∙ ap (λ (x : ℕ). take x c) (sym e)
        | inr g ↦ let e : min k room ≡ k = omega arith in take_all room (take k c) (rw length-take (omega arith)) ∙ ap (λ (x : ℕ). take x c) (sym e)
      ]

  pub others_came : length (drop room (take k c)) ≡ length (take (k - length (take (min k room) c)) (drop (min k room) c))
  others_came = simp (length-drop, length-take) (omega arith)

-- n frames, and then the others up to k
pub in_two : {F : Type 0} (n k : ℕ) (c : List F) → n ≤ k → take n c ++ take (k - length (take n c)) (drop n c) ≡ take k c
in_two {F} n k c h =
    elim (cases_lt (length c) n) [
      | inl l ↦
          ap (λ (fs : List F). take n c ++ take (k - length (take n c)) fs) (drop_all n c (omega arith))
          ∙ ap (λ (fs : List F). take n c ++ fs) (take_all (k - length (take n c)) [] (omega arith))
          ∙ append-nil (take n c)
          ∙ take_all n c (omega arith)
          ∙ sym (take_all k c (omega arith))
      | inr g ↦
          let long = length-take-le n c g in
          let whole : n + (k - n) ≡ k = omega arith in
          ap (λ (j : ℕ). take n c ++ take (k - j) (drop n c)) long
          ∙ ap (λ (fs : List F). take n c ++ fs) (sym (drop-take n (k - n) c))
          ∙ ap (λ (j : ℕ). take n c ++ drop n (take j c)) whole
          ∙ ap (λ (fs : List F). fs ++ drop n (take k c)) (sym (take-take n k c h))
          ∙ take-append-drop n (take k c)
    ]

module _ {S : Type 0} (p : SourcePoints S) where
  -- one get more
  pub gives_more : (s t u : S) (c : List Frame) (i : ℕ) (f : Frame) → Gives p s (take i c) t → p.coming t ≡ drop i c → Gets p t (Some f) u
      → (i < length c) × (p.coming u ≡ drop (i + 1) c) × Gives p s (take (i + 1) c) u
  gives_more s t u c i f g e h =
      let more = got_more c i f (p.coming u) (sym e ∙ h.0) in
      (more.0, more.1, subst (λ (fs : List Frame). Gives p s fs u) (sym more.2) (chains_join p s t u (take i c) (f ∷ []) g (u, h, refl)))

  -- none came any more
  pub gives_all : (s t u : S) (c : List Frame) (i k : ℕ) → Gives p s (take i c) t → p.coming t ≡ drop i c → Gets p t None u → i ≤ length c → i ≤ k
      → (take k c ≡ take i c) × (length (take k c) ≡ i) × (p.coming u ≡ drop k c) × Gives p s (take k c) u
  gives_all s t u c i k g e h within asked =
      let all = got_all c i k (sym e ∙ h.0) within asked in (
        all.0,
        ap length all.0 ∙ all.1,
        ap p.coming h.1 ∙ h.0 ∙ sym all.2,
        subst (λ (x : S). Gives p s (take k c) x) (sym h.1) (subst (λ (fs : List Frame). Gives p s fs t) (sym all.0) g),
      )

  -- the frames that were kept and then those that were lost
  pub gives_both : (s t u : S) (c : List Frame) (n k : ℕ) → n ≤ k → Gives p s (take n c) t → Gives p t (take (k - length (take n c)) (drop n c)) u → Gives p s (take k c) u
  gives_both s t u c n k h g l =
      subst (λ (fs : List Frame). Gives p s fs u) (in_two n k c h) (chains_join p s t u (take n c) (take (k - length (take n c)) (drop n c)) g l)

-- one frame more is written at its place
pub stored_again : (s : ℕ) (m m' : List Frame) (n : ℕ) (c : List Frame) (i place : ℕ) (f : Frame) (here rest : List Frame)
    → i ≤ length c → m' ≡ stored s m n (take i c) → place ≡ (n + i) % s → here ≡ drop i c → here ≡ f ∷ rest
    → set m' place f ≡ stored s m n (take (i + 1) c)
stored_again s m m' n c i place f here rest within is at e h =
    let more = got_more c i f rest (sym e ∙ h) in
    let long = length-take-le i c within in
    ap (λ (x : List Frame). set x place f) is
    ∙ ap (λ (x : ℕ). set (stored s m n (take i c)) x f) (at ∙ ap (λ (j : ℕ). (n + j) % s) (sym long))
    ∙ sym (stored_more s m n (take i c) f)
    ∙ ap (stored s m n) (sym more.2)

pub place_again : (s n i place : ℕ) → place ≡ (n + i) % s → (place + 1) % s ≡ (n + (i + 1)) % s
place_again s n i place at =
    let sum : n + i + 1 ≡ n + (i + 1) = omega arith in
    ap (λ (x : ℕ). (x + 1) % s) at ∙ mod-add-mod (n + i) s 1 ∙ ap (λ (x : ℕ). x % s) sum

-- no more are kept than there is room for, and no more come than were asked for
pub came_within : {F : Type 0} (k room : ℕ) (c : List F)
    → (length (take room (take k c)) ≤ room) × (length (take room (take k c)) + length (drop room (take k c)) ≤ k)
came_within k room c = (simp length-take (omega arith), simp (length-drop, length-take) (omega arith))
