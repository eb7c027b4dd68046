-- What becomes of frames that are offered one after the other.
--   Stopped       why not all of them were taken: the allowance is 0, and this is the sink's stop; or all were taken
--   Feeds         the frames taken are the first, each by one obeyed offer, and what was heard is what the making rule makes
--                 of them
-- Assumes nothing.
use Rattle.std.specs.Prelude.{◌≡◌, ℕ, ◌<◌, List, length, take, Some, None, Option}
use Rattle.frames.specs.declared.frame.Frame.{Frame}
use Rattle.sinks.specs.declared.feed.Fed.{Fed}
use Rattle.sinks.specs.declared.stop.Stop.{Stop}
use Rattle.sinks.specs.Sink.{SinkPoints, Offers, Took}

module _ {S : Type 0} (p : SinkPoints S) where
  abbrev pub Stopped : ℕ → ℕ → Option Stop → S → Type 0
  Stopped taken all None t = taken ≡ all
  Stopped taken all (Some w) t = (taken < all) × (p.allowance t ≡ 0) × (w ≡ p.stop t)

  pub record Feeds (s : S) (fs : List Frame) (r : Fed) (t : S) : Type 0 where
    pub offered : Offers p s (take r.taken fs) t
    pub took : Took p s (take r.taken fs) t
    pub stopped : Stopped r.taken (length fs) r.stop t
