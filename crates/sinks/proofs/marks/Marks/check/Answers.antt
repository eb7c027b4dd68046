use Rattle.std.proofs.Common.{◌++◌, List, ℕ, length, drop, replicate, rules, nat_lt, refl, ap, ◌∙◌, sym, subst, arith}
use Rattle.std.proofs.lemmas.Fn.{always_returns_same}
use Rattle.std.proofs.lemmas.List.{take_at}
use Rattle.sinks.specs.Rising.{Rises, RisesTo}
use Rattle.sinks.proofs.RisingMarks.{all_rise, some_fall, front_rises}
use Rattle.sinks.proofs.marks.Marks.check.Goals.{then-list-gt16-via-then-list-gt16, then-list-gt16-via-else-list-gt16+then-not-is_sorted_by}
use Rattle.sinks.proofs.marks.Marks.check.Goals as goal

pub returns-then-list-gt16 : goal.returns-then-list-gt16
returns-then-list-gt16 c =
    let xs = c.args.list.now in
    elim c.then-list-gt16.branch [
      | then-list-gt16-via-then-list-gt16 w ↦ (refl, λ good. omega arith)
      | then-list-gt16-via-else-list-gt16+then-not-is_sorted_by w ↦
          (refl, λ good. some_fall xs _ (w.is_sorted_by.ensures.cases nat_lt (always_returns_same _ _ _ (λ a r f' k. search rules))) w.if-not-is_sorted_by.true good.1)
    ]

pub invariant_of-result-clause-rising : goal.invariant_of-result-clause-rising
invariant_of-result-clause-rising c =
    let xs = c.args.list.now in
    let rise : Rises xs = all_rise xs _ (c.is_sorted_by.ensures.cases nat_lt (always_returns_same _ _ _ (λ a r f' k. search rules))) c.if-not-is_sorted_by.false in
    let behind : List ℕ = drop (length xs) (replicate 16 0) in
    subst (λ (ys : List ℕ). RisesTo (ys ++ behind) (length xs)) (sym c.copy_from_slice.ensures.after) (front_rises xs behind rise)

pub returns : goal.returns
returns c =
    let xs = c.args.list.now in
    let rise : Rises xs = all_rise xs _ (c.is_sorted_by.ensures.cases nat_lt (always_returns_same _ _ _ (λ a r f' k. search rules))) c.if-not-is_sorted_by.false in
    ((c.if-list-gt16.false, rise), record { marks = take_at c.copy_from_slice.new.self _ (length xs) (ap length c.copy_from_slice.ensures.after) ∙ c.copy_from_slice.ensures.after; none_removed = refl; all_left = refl; none_taken = refl })
