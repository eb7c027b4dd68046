use Rattle.std.proofs.Common.{◌≡◌, ℕ, ◌+◌, ◌-◌, ◌*◌, ◌^◌, ◌≤◌, take, drop, pos, ◌+ℤ◌, ◌*ℤ◌, nat_abs, ap, ◌∙◌, arith, w16, w64, SFits, rules}
use Rattle.std.proofs.lemmas.Int.{to_z-of_z}
use Rattle.frames.specs.Samples.{floor_div, limited}
use Rattle.frames.specs.Filter.{weighted}
use Rattle.frames.proofs.Bounds.{abs_add, abs_fits}
use Rattle.frames.proofs.filter.Filter.sample.Goals as goal

pub returns : goal.returns
returns c =
    let s = c.args.self.now in
    let p = c.product.result in
    let w = c.weigh.result in
    let at = s.line.newest in
    let ff : SFits w16 s.first = search rules in
    let fi : SFits w16 c.args.input = c.ranges.input in
    let fp : SFits w64 p = record { sfits = c.product.type_inv } in
    let fw : SFits w64 w = record { sfits = c.weigh.type_inv } in
    let fr : SFits w16 c.round.result = record { sfits = c.round.type_inv } in
    let ep : p ≡ s.first *ℤ c.args.input = simp to_z-of_z at c.product.ensures.value in
    let n : at + 32 - at ≡ 32 = omega arith in
    let ew : w ≡ weighted s.later (take 32 (drop at c.args.channel.now)) =
    c.weigh.ensures.value ∙ ap (λ (k : ℕ). weighted s.later (take k (drop at c.args.channel.now))) n in
    let b : nat_abs (p +ℤ w) ≤ 33 * 2 ^ 30 = omega (arith, abs_add p w, c.product.ensures.bound, c.weigh.ensures.bound) in
    let fs : SFits w64 (p +ℤ w) = abs_fits (p +ℤ w) (omega arith) in
    to_z-of_z w16 c.round.result fr
    ∙ simp to_z-of_z at c.round.ensures
    ∙ ap (λ z. limited (floor_div (z +ℤ w +ℤ pos 16384) 32768)) ep
    ∙ ap (λ z. limited (floor_div (s.first *ℤ c.args.input +ℤ z +ℤ pos 16384) 32768)) ew
