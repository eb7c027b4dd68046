use Rattle.std.proofs.Common.{◌≡◌, ℕ, ◌+◌, ◌<◌, List, [], length, drop, sym, refl, ap, ◌∙◌, arith, rules}
use Rattle.std.proofs.lemmas.List.{take-set, drop-drop, drop-set-lt}
use Rattle.account.specs.Promise.{Step}
use Rattle.account.proofs.Both.{accounted}
use Rattle.account.proofs.Histories.{ran_next}
use Rattle.streams.proofs.table.Table.try_calls.Goals as goal

-- what is the same from place i on is so from the next place on
one_less : {X : Type 0} (i : ℕ) (xs ys : List X) → drop i xs ≡ drop i ys → drop (i + 1) xs ≡ drop (i + 1) ys
one_less i xs ys same = sym (drop-drop 1 i xs) ∙ ap (drop 1) same ∙ drop-drop 1 i ys

pub loop-count-preserved : goal.loop-count-preserved
loop-count-preserved g c =
    let l = c.loop-count in
    let inside : l.count < length c.args.calls.now = search rules in (
      omega (arith, inside),
      drop-set-lt (l.count + 1) l.answers l.count _ (omega arith) ∙ one_less l.count l.answers _ l.invariant.1,
      search rules,
      search rules,
      c.step-answer.ensures.leases,
      λ start past led.
          ran_next (Step g.S.Sink.shows g.R.Source.shows) c.args.calls.now l.answers l.count _ _ inside (omega (arith, l.auto.answers, c.loop-count-test.true)) (l.invariant.5 start past led) (rw c.in-Some.ensures.lookup.1 at c.step-answer.ensures.rule),
    )

pub returns-in_default-clause-account : goal.returns-in_default-clause-account
returns-in_default-clause-account g c = λ start past up led.
    let ran = c.loop-count.invariant.5 start past led in
    rw take-set (ran, accounted g.S.Sink.shows g.R.Source.shows start g.met.S.Sink.lawful _ _ up ran.leads)

pub returns-clause-account : goal.returns-clause-account
returns-clause-account g c = λ start past up led.
    let l = c.loop-count in
    let all : l.count ≡ length l.answers = omega (arith, l.auto.answers, l.auto.count-end, c.loop-count-test.false) in
    let ran = rw all at (l.invariant.5 start past led) in
    (ran, accounted g.S.Sink.shows g.R.Source.shows start g.met.S.Sink.lawful _ _ up ran.leads)

pub returns-clause-ran : goal.returns-clause-ran
returns-clause-ran g c =
    let l = c.loop-count in
    let all : l.count ≡ length l.answers = omega (arith, l.auto.answers, l.auto.count-end, c.loop-count-test.false) in
    rw all at (l.invariant.5 _ [] refl)
