-- Finite impulse response filters.
--   weighted ts ys         the sum of tap i times sample i; a sample that ys does not reach is 0
--   filtered_sample ts ys   that sum plus 16,384, divided by 32,768, rounded down and limited
--   filtered_frame ts ls rs f   the frame that comes out where f goes in, each channel by itself; ls and rs are the left
--                          and right inputs before it, the newest first
--   filtered ts ls rs fs   what a filter with taps ts makes of the frames fs, one after the other
-- Assumes nothing.
use Rattle.std.specs.Prelude.{List, [], ◌∷◌, ℤ, pos, ◌+ℤ◌, ◌*ℤ◌}
use Rattle.frames.specs.declared.frame.Frame.{Frame}
use Rattle.frames.specs.Samples.{floor_div, limited}

abbrev pub weighted : List ℤ → List ℤ → ℤ
weighted [] ys = pos 0
weighted (t ∷ ts) [] = pos 0
weighted (t ∷ ts) (y ∷ ys) = t *ℤ y +ℤ weighted ts ys

abbrev pub filtered_sample : List ℤ → List ℤ → ℤ
filtered_sample ts ys = limited (floor_div (weighted ts ys +ℤ pos 16384) 32768)

abbrev pub filtered_frame : List ℤ → List ℤ → List ℤ → Frame → Frame
filtered_frame ts ls rs f = record { left = filtered_sample ts (f.left ∷ ls); right = filtered_sample ts (f.right ∷ rs) }

abbrev pub filtered : List ℤ → List ℤ → List ℤ → List Frame → List Frame
filtered ts ls rs [] = []
filtered ts ls rs (f ∷ fs) = filtered_frame ts ls rs f ∷ filtered ts (f.left ∷ ls) (f.right ∷ rs) fs
