-- Chains of gets. Assumes nothing.
use Rattle.std.proofs.Common.{◌≡◌, ℕ, ◌+◌, ◌<◌, List, [], ◌∷◌, ◌++◌, length, take, drop, set, Some, sym, refl, ap, ◌∙◌, subst, arith}
use Rattle.std.proofs.lemmas.List.{drop-drop, drop-set-lt, take_more_set}
use Rattle.frames.specs.declared.frame.Frame.{Frame}
use Rattle.sources.specs.Source.{SourcePoints, Gets, Gives, ChainsJoin, ChainsTake}

module _ {S : Type 0} (p : SourcePoints S) where
  pub chains_join : ChainsJoin p
  chains_join s t u [] gs e h = subst (λ x. Gives p x gs u) e h
  chains_join s t u (f ∷ fs) gs g h = (g.0, g.1, chains_join g.0 t u fs gs g.2 h)

  pub chains_take : ChainsTake p
  chains_take s t [] e = ap p.coming (sym e)
  chains_take s t (f ∷ fs) g = g.1.0 ∙ ap (λ x. f ∷ x) (chains_take g.0 t fs g.2)

  -- one get more
  chain_more : (s t u : S) (fs : List Frame) (f : Frame) → Gives p s fs t → Gets p t (Some f) u → Gives p s (fs ++ f ∷ []) u
  chain_more s t u fs f g h = chains_join s t u fs (f ∷ []) g (u, h, refl)

  -- one frame more written at its place: the chain is one longer, and what stands behind is as it was
  pub fill_more :
      (s t u : S) (m m₀ m₁ : List Frame) (n : ℕ) (f : Frame)
      → n < length m
      → m₁ ≡ set m n f
      → drop n m ≡ drop n m₀
      → Gives p s (take n m) t
      → Gets p t (Some f) u
      → (drop (n + 1) m₁ ≡ drop (n + 1) m₀) × Gives p s (take (n + 1) m₁) u
  fill_more s t u m m₀ m₁ n f h e rest g more =
      let written : take (n + 1) m₁ ≡ take n m ++ f ∷ [] = ap (take (n + 1)) e ∙ take_more_set m n f h in
      let behind : drop (n + 1) m₁ ≡ drop (n + 1) m₀ =
      ap (drop (n + 1)) e ∙ drop-set-lt (n + 1) m n f (omega arith) ∙ sym (drop-drop 1 n m) ∙ ap (drop 1) rest ∙ drop-drop 1 n m₀ in
      (behind, subst (λ fs. Gives p s fs u) (sym written) (chain_more s t u (take n m) f g more))
