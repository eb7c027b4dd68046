-- Frames offered from a ring, the oldest first.
--   Plays p fs s k r t   of the frames fs at most k were offered to the sink s, one by one, until one was refused
-- Assumes nothing.
use Rattle.std.specs.Prelude.{◌≡◌, ℕ, ◌<◌, ◌≤◌, List, length, take, Some, None, Option}
use Rattle.frames.specs.declared.frame.Frame.{Frame}
use Rattle.sinks.specs.declared.stop.Stop.{Stop}
use Rattle.sinks.specs.Sink.{SinkPoints, Offers}
use Rattle.playback.specs.declared.playing.Gone.{Gone}

module _ {S : Type 0} (p : SinkPoints S) where
  -- why no more went: as many went as were asked for, or none was left, or the sink stopped
  abbrev pub Ended : ℕ → ℕ → ℕ → Option Stop → S → Type 0
  Ended went k all None t = went < k → went ≡ all
  Ended went k all (Some w) t = (went < k) × (went < all) × (p.allowance t ≡ 0) × (w ≡ p.stop t)

  pub record Plays (s : S) (fs : List Frame) (k : ℕ) (r : Gone) (t : S) : Type 0 where
    pub asked : r.went ≤ k
    pub there : r.went ≤ length fs
    pub offered : Offers p s (take r.went fs) t
    pub ended : Ended r.went k (length fs) r.stop t
