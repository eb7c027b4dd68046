-- Sums on samples, frames and lists of frames.
--   floor_div z d       z / d, rounded down
--   limited z          the number of 16 bits nearest to z
--   silence            the frame of two samples 0
--   both g f           g applied to each channel of f by itself
--   gained q f         each sample times q / 256, rounded down and limited; 256 is unity
--   gained_all q fs     the same of each frame of a list
--   mixed f g          the sum of two frames, each channel limited
--   mixed_all fs gs     the frames gs mixed into fs from its start; what gs does not reach stays as it is
-- Assumes nothing.
use Rattle.std.specs.Prelude.{ℕ, ◌/◌, min, List, [], ◌∷◌, map, ℤ, pos, negsuc, ◌+ℤ◌, ◌*ℤ◌}
use Rattle.frames.specs.declared.frame.Frame.{Frame}

abbrev pub floor_div : ℤ → ℕ → ℤ
floor_div (pos n) d = pos (n / d)
floor_div (negsuc n) d = negsuc (n / d)

abbrev pub limited : ℤ → ℤ
limited (pos n) = pos (min n 32767)
limited (negsuc n) = negsuc (min n 32767)

abbrev pub silence : Frame
silence = record { left = pos 0; right = pos 0 }

abbrev pub both : (ℤ → ℤ) → Frame → Frame
both g f = record { left = g f.left; right = g f.right }

abbrev pub gained_sample : ℕ → ℤ → ℤ
gained_sample q x = limited (floor_div (x *ℤ pos q) 256)

abbrev pub gained : ℕ → Frame → Frame
gained q f = both (gained_sample q) f

abbrev pub gained_all : ℕ → List Frame → List Frame
gained_all q fs = map (gained q) fs

abbrev pub mixed_sample : ℤ → ℤ → ℤ
mixed_sample x y = limited (x +ℤ y)

abbrev pub mixed : Frame → Frame → Frame
mixed f g = record { left = mixed_sample f.left g.left; right = mixed_sample f.right g.right }

abbrev pub mixed_all : List Frame → List Frame → List Frame
mixed_all [] gs = []
mixed_all (f ∷ fs) [] = f ∷ fs
mixed_all (f ∷ fs) (g ∷ gs) = mixed f g ∷ mixed_all fs gs
