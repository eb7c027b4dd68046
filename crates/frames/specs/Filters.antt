-- What a filter holds.
--   taps_of set      the taps of a checked set; what stands behind its count does not matter
--   weights f       the taps of a filter, filled up with 0
--   earlier_left f, earlier_right f   its last inputs, the newest first
--   output_of f x    the frame that comes out where x goes in
--   Pushed f x f'   the filter after x went in: x is its newest input, and the oldest is forgotten
--   makes_of f fs    what the filter makes of frames, from now on
--   CheckedTaps    what the check of taps answers
-- Assumes nothing.
use Rattle.std.specs.Prelude.{◌≡◌, ℕ, ◌≤◌, List, ◌∷◌, take, ℤ, Ok, Err, Result}
use Rattle.codes.specs.declared.refusal.Refusal.{Refusal}
use Rattle.codes.specs.declared.refusal.Refusal.TheVariants.{Layer}
use Rattle.frames.specs.declared.frame.Frame.{Frame}
use Rattle.frames.specs.declared.taps.TapSet.{TapSet}
use Rattle.frames.specs.declared.filter.Filter.{Filter}
use Rattle.frames.specs.Filter.{filtered, filtered_frame}
use Rattle.frames.specs.Mirror.{recent}

abbrev pub taps_of : TapSet → List ℤ
taps_of set = take set.count set.taps

abbrev pub weights : Filter → List ℤ
weights f = f.first ∷ f.later

abbrev pub earlier_left : Filter → List ℤ
earlier_left f = recent f.line.newest f.line.left

abbrev pub earlier_right : Filter → List ℤ
earlier_right f = recent f.line.newest f.line.right

abbrev pub output_of : Filter → Frame → Frame
output_of f x = filtered_frame (weights f) (earlier_left f) (earlier_right f) x

pub record Pushed (f : Filter) (x : Frame) (f' : Filter) : Type 0 where
  pub weights_same : weights f' ≡ weights f
  pub left : earlier_left f' ≡ take 32 (x.left ∷ earlier_left f)
  pub right : earlier_right f' ≡ take 32 (x.right ∷ earlier_right f)

abbrev pub makes_of : Filter → List Frame → List Frame
makes_of f fs = filtered (weights f) (earlier_left f) (earlier_right f) fs

-- 1 to 32 taps, and the set has these very taps
abbrev pub CheckedTaps : List ℤ → ℕ → Result TapSet Refusal → Type 0
CheckedTaps taps count (Ok set) = ((1 ≤ count) × (count ≤ 32)) × (taps_of set ≡ take count taps)
CheckedTaps taps count (Err e) = (e ≡ Layer) × ((1 ≤ count) × (count ≤ 32) → ⊥)
