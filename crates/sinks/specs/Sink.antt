-- What a sink shows, and what an offer and a heal do to it.
--   SinkPoints S     what a sink of type S shows:
--     heard          the frames brought out at its bottom so far
--     allowance      how many offers it takes for certain
--     makes          its making rule: what it would bring out, from now on, of each list of frames
--     stop           why it refuses, where the allowance is 0
--     takes s f t    exactly how it is, t, after s took the frame f
--     healed s t     exactly how it is, t, after s was healed
--   Offered          one obeyed offer
--   TurnedAway      one refused offer: nothing changed
--   Answers          one or the other, by the answer
--   Heals            a heal: what was heard and the making rule stay
--   Took s fs t      the sink has taken exactly the frames fs since it was s, whatever heals came between: it heard what its
--                    rule makes of them, and its rule is what it is once it has taken them
--   Offers s fs t    obeyed offers of exactly the frames fs, one by one, in order, nothing in between
-- Assumes nothing.
use Rattle.std.specs.Prelude.{◌≡◌, ℕ, ◌+◌, ◌<◌, ◌≤◌, List, [], ◌∷◌, ◌++◌, Ok, Err, Result}
use Rattle.frames.specs.declared.frame.Frame.{Frame}
use Rattle.sinks.specs.declared.stop.Stop.{Stop}
use Rattle.sinks.specs.Making.{once}

pub record SinkPoints (S : Type 0) : Type 1 where
  pub heard : S → List Frame
  pub allowance : S → ℕ
  pub makes : S → List Frame → List Frame
  pub stop : S → Stop
  pub takes : S → Frame → S → Type 0
  pub healed : S → S → Type 0

module _ {S : Type 0} (p : SinkPoints S) where
  pub record Offered (s : S) (f : Frame) (t : S) : Type 0 where
    pub allowed : 0 < p.allowance s
    pub heard_grew : p.heard t ≡ p.heard s ++ p.makes s (f ∷ [])
    pub rule_after : (B : List Frame) → p.makes t B ≡ once (p.makes s) (f ∷ []) B
    pub fell_by_one_at_most : p.allowance s ≤ p.allowance t + 1
    pub whole : p.takes s f t

  pub record TurnedAway (s : S) (w : Stop) (t : S) : Type 0 where
    pub exhausted : p.allowance s ≡ 0
    pub reason : w ≡ p.stop s
    pub same : t ≡ s

  abbrev pub Answers : S → Frame → Result Unit Stop → S → Type 0
  Answers s f (Ok u) t = Offered s f t
  Answers s f (Err w) t = TurnedAway s w t

  pub record Heals (s t : S) : Type 0 where
    pub heard_same : p.heard t ≡ p.heard s
    pub rule_same : (B : List Frame) → p.makes t B ≡ p.makes s B
    pub whole : p.healed s t

  pub record Took (s : S) (fs : List Frame) (t : S) : Type 0 where
    pub heard_grew : p.heard t ≡ p.heard s ++ p.makes s fs
    pub rule_after : (B : List Frame) → p.makes t B ≡ once (p.makes s) fs B

  abbrev pub Offers : S → List Frame → S → Type 0
  Offers s [] t = t ≡ s
  Offers s (f ∷ fs) t = (u : S) × Offered s f u × Offers u fs t
