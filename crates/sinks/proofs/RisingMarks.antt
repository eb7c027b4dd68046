-- What an answer on each mark and the next says of all. Assumes nothing.
use Rattle.std.proofs.Common.{◌≡◌, ℕ, ◌+◌, Bool, true, false, List, ◌++◌, length, nat_lt, sym, arith}
use Rattle.std.specs.List.{IsAllAdjacentAnswer}
use Rattle.std.proofs.lemmas.List.{get_or_append_left}
use Rattle.std.proofs.lemmas.Bool.{ltb-true, lt-ltb}
use Rattle.sinks.specs.Rising.{RisesTo, Rises}

pub all_rise : (xs : List ℕ) (r : Bool) → IsAllAdjacentAnswer (λ x y b. b ≡ nat_lt x y) xs r → r ≡ true → Rises xs
all_rise xs true h e = λ i l. ltb-true _ _ (sym (h i 0 l))
all_rise xs false h e = absurd (cc)

pub some_fall : (xs : List ℕ) (r : Bool) → IsAllAdjacentAnswer (λ x y b. b ≡ nat_lt x y) xs r → r ≡ false → Rises xs → ⊥
some_fall xs true h e rise = absurd (cc)
some_fall xs false (k, l, h) e rise = let up = lt-ltb _ _ (rise k l) in absurd (cc (h 0, up))

-- with anything behind them
pub front_rises : (xs ys : List ℕ) → Rises xs → RisesTo (xs ++ ys) (length xs)
front_rises xs ys rise i l = omega (arith, rise i l, get_or_append_left xs ys 0 i (omega arith), get_or_append_left xs ys 0 (i + 1) l)
