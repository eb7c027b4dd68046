-- Sources of frames.
--   SourcePoints S     what is to be told of a source of the type S: the two below
--   coming s           the frames still to come from s, the next one first
--   gives s f t        s gave up the frame f and is t now: how t follows from s
--   Gets p s r t       s was asked for a frame, answered r and is t now
--   Gives p s fs t     s gave up the frames fs, one get for each, and is t now
--   ChainsJoin p      gets that go on where others ended make one chain with them
--   ChainsTake p      a chain of gets takes its frames off the front of those to come
-- Assumes nothing.
use Rattle.std.specs.Prelude.{◌≡◌, List, [], ◌∷◌, ◌++◌, Some, None, Option}
use Rattle.frames.specs.declared.frame.Frame.{Frame}

pub record SourcePoints (S : Type 0) : Type 1 where
  pub coming : S → List Frame
  pub gives : S → Frame → S → Type 0

abbrev pub Gets : {S : Type 0} → SourcePoints S → S → Option Frame → S → Type 0
Gets p s None t = (p.coming s ≡ []) × (t ≡ s)
Gets p s (Some f) t = (p.coming s ≡ f ∷ p.coming t) × p.gives s f t

abbrev pub Gives : {S : Type 0} → SourcePoints S → S → List Frame → S → Type 0
Gives p s [] t = t ≡ s
Gives {S} p s (f ∷ fs) t = (u : S) × Gets p s (Some f) u × Gives p u fs t

abbrev pub ChainsJoin : {S : Type 0} → SourcePoints S → Type 0
ChainsJoin {S} p = (s t u : S) (fs gs : List Frame) → Gives p s fs t → Gives p t gs u → Gives p s (fs ++ gs) u

abbrev pub ChainsTake : {S : Type 0} → SourcePoints S → Type 0
ChainsTake {S} p = (s t : S) (fs : List Frame) → Gives p s fs t → p.coming s ≡ fs ++ p.coming t
