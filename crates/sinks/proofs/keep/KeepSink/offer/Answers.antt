use Rattle.std.proofs.Common.{◌≡◌, ℕ, ◌+◌, ◌-◌, ◌*◌, ◌≤◌, min, eqb, List, [], ◌∷◌, ◌++◌, length, drop, sym, ap, ◌∙◌, subst, arith, true, is_ok, Ok, Err, Result}
use Rattle.std.proofs.lemmas.Bool.{eq-eqb, cond-true}
use Rattle.frames.specs.declared.frame.Frame.{Frame}
use Rattle.frames.specs.Keep.{kept}
use Rattle.sinks.specs.declared.stop.Stop.{Stop}
use Rattle.sinks.specs.Keeps.{TakesBelow}
use Rattle.sinks.specs.Sink.{SinkPoints, Answers, Offered}
use Rattle.sinks.proofs.Allowances.{some_left, one_less}
use Rattle.sinks.proofs.keep.KeepSink.offer.Goals as goal

-- an offer whose answer is no stop was obeyed
obeyed : {S : Type 0} (p : SinkPoints S) (s t : S) (f : Frame) (r : Result Unit Stop) → is_ok r ≡ true → Answers p s f r t → Offered p s f t
obeyed p s t f (Ok u) e h = h
obeyed p s t f (Err w) e h = absurd (cc)

pub returns : goal.returns
returns g c =
    let s = c.args.self.now in
    let k = s.effect in
    let f = c.args.frame in
    let t = c.offer.new.self in
    let d = g.D.Sink.shows in
    let k' = c.step-2.new.self in
    let h = obeyed d s.below t f c.offer.result (sym c.map_err.ensures.variant ∙ ap is_ok c.in_ok-map_err.was) c.offer.ensures in
    let m : List Frame → List Frame = d.makes s.below in
    let z : k.fall ≡ 0 = omega arith in
    let every : k'.factor.every ≡ k.factor.every = ap (λ z. z.every) c.step-2.ensures.factor_same in
    let falls : k'.fall ≡ k.factor.every - 1 = c.step-2.ensures.falls ∙ cond-true (eqb k.fall 0) _ _ (eq-eqb k.fall 0 z) in
    let pass : (B : List Frame) → kept k.factor.every k.fall (f ∷ B) ≡ f ∷ kept k.factor.every (k.factor.every - 1) B = λ B. ap (λ (n : ℕ). kept k.factor.every n (f ∷ B)) z in
    let later : (B : List Frame) → kept k'.factor.every k'.fall B ≡ kept k.factor.every (k.factor.every - 1) B = λ B. ap (λ (n : ℕ). kept n k'.fall B) every ∙ ap (λ (n : ℕ). kept k.factor.every n B) falls in
    let less : min (d.allowance s.below * k.factor.every + k.fall) 4294967295 ≤ min (d.allowance t * k.factor.every + k'.fall) 4294967295 + 1 =
    one_less (d.allowance s.below) (d.allowance t) k.factor.every k.fall k'.fall 4294967295 z falls h.fell_by_one_at_most in
    record {
      allowed = some_left (d.allowance s.below) k.factor.every k.fall 4294967295 h.allowed (omega (arith, k.factor.least)) (omega arith);
      heard_grew = h.heard_grew ∙ ap (λ w. d.heard s.below ++ m w) (sym (pass []));
      rule_after = λ B.
          ap (d.makes t) (later B)
          ∙ h.rule_after (kept k.factor.every (k.factor.every - 1) B)
          ∙ ap (λ w. drop (length (m w)) (m (f ∷ kept k.factor.every (k.factor.every - 1) B))) (sym (pass []))
          ∙ ap (λ w. drop (length (m (kept k.factor.every k.fall (f ∷ [])))) (m w)) (sym (pass B));
      fell_by_one_at_most = subst (λ (n : ℕ). min (d.allowance s.below * k.factor.every + k.fall) 4294967295 ≤ min (d.allowance t * n + k'.fall) 4294967295 + 1) (sym every) less;
      whole = (subst (λ (n : ℕ). TakesBelow d.takes n s.below f t) (sym z) h.whole, c.step-2.ensures);
    }
