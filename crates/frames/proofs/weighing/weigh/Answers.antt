use Rattle.std.proofs.Common.{◌≡◌, ◌+◌, ◌*◌, ◌^◌, ◌≤◌, ℕ, [], ◌∷◌, ◌++◌, length, get_or, take, ℤ, pos, ◌+ℤ◌, ◌*ℤ◌, nat_abs, sym, ap, ◌∙◌, subst, arith, w16, w64, SFits, rules, length-append}
use Rattle.std.proofs.lemmas.List.{take_all}
use Rattle.std.proofs.lemmas.Int.{to_z-of_z}
use Rattle.std.proofs.lemmas.Slice.Zip.{zip_turn, zip_end}
use Rattle.frames.specs.Filter.{weighted}
use Rattle.frames.proofs.Bounds.{abs_add, abs_fits}
use Rattle.frames.proofs.Weights.{weighted_more}
use Rattle.frames.proofs.weighing.weigh.Goals as goal

pub loop-tap-preserved : goal.loop-tap-preserved
loop-tap-preserved c =
    let ts = c.args.taps.now in
    let ys = c.args.samples.now in
    let t = c.in-Some.tap.now in
    let y = c.in-Some.sample.now in
    let s = c.loop-tap.sum in
    let p = c.product-sum.result in
    let i : ℕ = length c.loop-tap.yielded in
    let inv = c.loop-tap.invariant in
    let turn = zip_turn ts ys c.loop-tap.yielded c.into_iter-tap-iterator.result c.loop-tap.tap-iterator c.next.new.self c.next.result (search rules) (search rules) c.loop-tap.yielded_by (c.in-Some.tap, c.in-Some.sample) c.in-Some.is c.next.ensures.steps in
    let et : t ≡ get_or ts i (pos 0) = turn.2 (pos 0) in
    let ey : y ≡ get_or ys i (pos 0) = turn.3 (pos 0) in
    let gt : SFits w16 (get_or ts i (pos 0)) = search rules in
    let gy : SFits w16 (get_or ys i (pos 0)) = search rules in
    let ft : SFits w16 t = subst (λ (z : ℤ). SFits w16 z) (sym et) gt in
    let fy : SFits w16 y = subst (λ (z : ℤ). SFits w16 z) (sym ey) gy in
    let fp : SFits w64 p = record { sfits = c.product-sum.type_inv } in
    let ev : p ≡ t *ℤ y = simp to_z-of_z at c.product-sum.ensures.value in
    let sum : s ≡ weighted (take i ts) ys = sym c.loop-tap.sum-is ∙ inv.2 in
    let ab : nat_abs s ≤ i * 2 ^ 30 = omega (arith, inv.3, ap nat_abs c.loop-tap.sum-is) in
    let b : nat_abs (s +ℤ p) ≤ (i + 1) * 2 ^ 30 = omega (arith, abs_add s p, c.product-sum.ensures.bound) in
    let fs : SFits w64 (s +ℤ p) = abs_fits (s +ℤ p) (omega arith) in
    let n : length (c.loop-tap.yielded ++ (c.in-Some.tap, c.in-Some.sample) ∷ []) ≡ i + 1 = length-append c.loop-tap.yielded ((c.in-Some.tap, c.in-Some.sample) ∷ []) in
    let step : s +ℤ p ≡ weighted (take (i + 1) ts) ys =
    ap (λ z. z +ℤ p) sum ∙ ap (λ z. weighted (take i ts) ys +ℤ z) (ev ∙ ap (λ z. z *ℤ y) et ∙ ap (λ z. get_or ts i (pos 0) *ℤ z) ey) ∙ sym (weighted_more ts ys i turn.0 turn.1) in
    (inv.0, inv.1, simp (c.loop-tap.sum-is, to_z-of_z, n) step, simp (c.loop-tap.sum-is, to_z-of_z, n) b)

pub returns : goal.returns
returns c =
    let ts = c.args.taps.now in
    let ys = c.args.samples.now in
    let i : ℕ = length c.loop-tap.yielded in
    let n = zip_end ts ys c.loop-tap.yielded c.into_iter-tap-iterator.result c.loop-tap.tap-iterator c.next.new.self c.next.result (search rules) (search rules) c.loop-tap.yielded_by c.in-None.is c.next.ensures.steps in
    record { value = c.loop-tap.invariant.2 ∙ ap (λ z. weighted z ys) (take_all i ts (omega arith)); bound = omega (arith, c.loop-tap.invariant.3) }
