-- Frames that go from the front go in the order of their numbers.
use Rattle.std.proofs.Common.{◌≡◌, ℕ, zero, suc, ◌+◌, ◌-◌, ◌<◌, ◌≤◌, List, [], ◌++◌, length, get_or, sym, refl, ap, ◌∙◌, inl, inr, add-zero, add-suc, suc-add, arith}
use Rattle.std.proofs.lemmas.Bool.{cases_lt}
use Rattle.std.proofs.lemmas.List.{get_or_append_left, get_or-append_right, length-append}
use Rattle.account.specs.Numbers.{numbers, Rises}
use Rattle.account.proofs.Stretches.{length_numbers}

get_or_numbers : (n k i : ℕ) → i < k → get_or (numbers n k) i 0 ≡ n + i
get_or_numbers n zero i inside = absurd (omega arith)
get_or_numbers n (suc k) zero inside = sym (add-zero n)
get_or_numbers n (suc k) (suc i) inside = get_or_numbers (suc n) k i (omega arith) ∙ suc-add n i ∙ sym (add-suc n i)

-- the numbers that went rise, and lie below the first that did not
pub record Ordered (from : ℕ) (went : List ℕ) : Type 0 where
  pub below : (i : ℕ) → i < length went → get_or went i 0 < from
  pub rises : Rises went

pub ordered_none : Ordered 0 []
ordered_none = record { below = λ i l. absurd (omega arith); rises = λ i j a b. absurd (omega arith) }

pub ordered_later : {from later : ℕ} {went : List ℕ} → Ordered from went → from ≤ later → Ordered later went
ordered_later o more = record { below = λ i l. omega (arith, o.below i l); rises = o.rises }

module _ {from : ℕ} {went : List ℕ} (o : Ordered from went) (k : ℕ) where
  early : (i : ℕ) → i < length went → get_or (went ++ numbers from k) i 0 ≡ get_or went i 0
  early i l = get_or_append_left went (numbers from k) 0 i l

  late : (i : ℕ) → length went ≤ i → i < length went + k → get_or (went ++ numbers from k) i 0 ≡ from + (i - length went)
  late i g l = get_or-append_right went (numbers from k) (length went) i 0 refl g ∙ get_or_numbers from k (i - length went) (omega arith)

  pub ordered_go : Ordered (from + k) (went ++ numbers from k)
  ordered_go =
      let long : length (went ++ numbers from k) ≡ length went + k = length-append went (numbers from k) ∙ ap (λ x. length went + x) (length_numbers from k) in
      record {
        below = λ i l. elim (cases_lt i (length went)) [
          | inl a ↦ rw (early i a) (omega (arith, o.below i a))
          | inr g ↦ let inside : i < length went + k = omega arith in rw (late i g inside) (omega arith)
        ];
        rises = λ i j a b.
            let inside : j < length went + k = omega arith in
            elim (cases_lt j (length went)) [
              | inl l ↦ let first : i < length went = omega arith in rw (early i first, early j l) (o.rises i j a l)
              | inr g ↦ elim (cases_lt i (length went)) [
                | inl l ↦ rw (early i l, late j g inside) (omega (arith, o.below i l))
                | inr h ↦ let first : i < length went + k = omega arith in rw (late i h first, late j g inside) (omega arith)
              ]
            ];
      }
