-- Making rules that are lawful. Assumes nothing.
use Rattle.std.specs.Prelude.{◌≡◌, ℕ, List, [], ◌++◌, map, reverse, length, drop, ℤ, refl}
use Rattle.std.proofs.Common.{sym, ap, ◌∙◌}
use Rattle.std.proofs.lemmas.List.{map-append, drop_at}
use Rattle.frames.specs.declared.frame.Frame.{Frame}
use Rattle.frames.specs.Samples.{gained, gained_all}
use Rattle.frames.specs.Filter.{filtered}
use Rattle.frames.specs.Keep.{kept, falling}
use Rattle.frames.proofs.Joins.{filter_joins, keep_joins}
use Rattle.sinks.specs.Making.{once, Lawful}

module _ {F : Type 0} where
  -- a rule is lawful as soon as some list is what comes next
  pub lawful_from : (m : List F → List F) (rest : List F → List F → List F) → m [] ≡ [] → ((A B : List F) → m (A ++ B) ≡ m A ++ rest A B) → Lawful m
  lawful_from m rest none more =
      record { nothing = none; followed = λ A B. more A B ∙ ap (λ z. m A ++ z) (sym (ap (drop (length (m A))) (more A B) ∙ drop_at (m A) (rest A B) (length (m A)) refl)) }

  -- one rule after another
  pub lawful_chain : (m g : List F → List F) → Lawful m → Lawful g → Lawful (λ fs. m (g fs))
  lawful_chain m g lm lg =
      lawful_from (λ fs. m (g fs)) (λ A B. once m (g A) (once g A B)) (ap m lg.nothing ∙ lm.nothing)
      (λ A B. ap m (lg.followed A B) ∙ lm.followed (g A) (once g A B))

  pub lawful_same : Lawful (λ (fs : List F). fs)
  lawful_same = lawful_from (λ fs. fs) (λ A B. B) refl (λ A B. refl)

  -- what a rule makes of a list, where it is known what it makes of the first part
  pub once_is : (m : List F → List F) (A B R : List F) → m (A ++ B) ≡ m A ++ R → once m A B ≡ R
  once_is m A B R e = ap (drop (length (m A))) e ∙ drop_at (m A) R (length (m A)) refl

pub lawful_gain : (q : ℕ) → Lawful (gained_all q)
lawful_gain q = lawful_from (gained_all q) (λ A B. gained_all q B) refl (λ A B. map-append (gained q) A B)

pub lawful_filter : (ts ls rs : List ℤ) → Lawful (filtered ts ls rs)
lawful_filter ts ls rs =
    lawful_from (filtered ts ls rs) (λ A B. filtered ts (reverse (map (λ f. f.left) A) ++ ls) (reverse (map (λ f. f.right) A) ++ rs) B) refl (filter_joins ts ls rs)

pub lawful_keep : (M k : ℕ) → Lawful (kept {F = Frame} M k)
lawful_keep M k = lawful_from (kept M k) (λ A B. kept M (falling M k A) B) refl (λ A B. keep_joins M k A B)
