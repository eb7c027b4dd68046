-- Chains of obeyed offers, and what a sink has taken over them. Assumes nothing.
use Rattle.std.proofs.Common.{◌≡◌, List, [], ◌∷◌, ◌++◌, length, drop, sym, refl, ap, ◌∙◌, subst}
use Rattle.std.proofs.lemmas.List.{append-nil, append_assoc}
use Rattle.frames.specs.declared.frame.Frame.{Frame}
use Rattle.sinks.specs.Making.{Lawful}
use Rattle.sinks.specs.Sink.{SinkPoints, Offered, Offers, Took, Heals}
use Rattle.sinks.specs.Rules.{once_is}

module _ {S : Type 0} (p : SinkPoints S) where
  pub offers_push : (s t u : S) (fs : List Frame) (f : Frame) → Offers p s fs t → Offered p t f u → Offers p s (fs ++ f ∷ []) u
  offers_push s t u [] f e o = (u, subst (λ (x : S). Offered p x f u) e o, refl)
  offers_push s t u (g ∷ fs) f (v, o, c) last = (v, o, offers_push v t u fs f c last)

module _ {S : Type 0} (p : SinkPoints S) (law : (s : S) → Lawful (p.makes s)) where
  pub took_none : (s : S) → Took p s [] s
  took_none s = record { heard_grew = sym (ap (λ z. p.heard s ++ z) (law s).nothing ∙ append-nil (p.heard s)); rule_after = λ B. sym (ap (λ z. drop (length z) (p.makes s B)) (law s).nothing) }

  -- what it makes of A followed by B is what it makes of A, then what the sink that took A makes of B
  took_follow : (s t : S) (A B : List Frame) → Took p s A t → p.makes s (A ++ B) ≡ p.makes s A ++ p.makes t B
  took_follow s t A B k = (law s).followed A B ∙ ap (λ z. p.makes s A ++ z) (sym (k.rule_after B))

  pub took_join : (s t u : S) (A B : List Frame) → Took p s A t → Took p t B u → Took p s (A ++ B) u
  took_join s t u A B k l =
      let m = p.makes s in
      let both : (C : List Frame) → m ((A ++ B) ++ C) ≡ m (A ++ B) ++ p.makes u C = λ C.
      ap m (append_assoc A B C)
      ∙ took_follow s t A (B ++ C) k
      ∙ ap (λ z. m A ++ z) (took_follow t u B C l)
      ∙ sym (append_assoc (m A) (p.makes t B) (p.makes u C))
      ∙ ap (λ z. z ++ p.makes u C) (sym (took_follow s t A B k)) in
      record {
        heard_grew = l.heard_grew
            ∙ ap (λ z. z ++ p.makes t B) k.heard_grew
            ∙ append_assoc (p.heard s) (m A) (p.makes t B)
            ∙ ap (λ z. p.heard s ++ z) (sym (took_follow s t A B k));
        rule_after = λ C. sym (once_is m (A ++ B) C (p.makes u C) (both C));
      }

  pub took_heal : (s t u : S) (A : List Frame) → Took p s A t → Heals p t u → Took p s A u
  took_heal s t u A k h = record { heard_grew = h.heard_same ∙ k.heard_grew; rule_after = λ B. h.rule_same B ∙ k.rule_after B }

  offered_took : (s t : S) (f : Frame) → Offered p s f t → Took p s (f ∷ []) t
  offered_took s t f o = record { heard_grew = o.heard_grew; rule_after = o.rule_after }

  pub offers_took : (s t : S) (fs : List Frame) → Offers p s fs t → Took p s fs t
  offers_took s t [] e = subst (λ (x : S). Took p s [] x) (sym e) (took_none s)
  offers_took s t (f ∷ fs) (u, o, c) = took_join s u t (f ∷ []) fs (offered_took s u f o) (offers_took u t fs c)
