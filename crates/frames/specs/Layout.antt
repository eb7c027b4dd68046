-- A frame as four bytes: left then right, low byte first.
--   sample_bytes z    the two bytes of a sample, low byte first
--   sample_of a b     the sample whose low byte is a and whose high byte is b
--   bytes_of f        the four bytes of a frame
--   frame_of bs       the frame that four bytes spell
--   frames_of bs      the frames that stand in the bytes, four to a frame; an incomplete last frame is left out
-- Assumes nothing.
use Rattle.std.specs.Prelude.{ℕ, ◌+◌, ◌*◌, ◌/◌, ◌%◌, List, [], ◌∷◌, ◌++◌, ℤ, slice_index}
use Rattle.std.specs.Int.{w16}
use Rattle.std.proofs.Common.{to_z, of_z}
use Rattle.frames.specs.declared.frame.Frame.{Frame}

abbrev pub sample_bytes : ℤ → List ℕ
sample_bytes z = of_z w16 z % 256 ∷ of_z w16 z / 256 % 256 ∷ []

abbrev pub sample_of : ℕ → ℕ → ℤ
sample_of low high = to_z w16 (low + high * 256)

abbrev pub bytes_of : Frame → List ℕ
bytes_of f = sample_bytes f.left ++ sample_bytes f.right

abbrev pub frame_of : List ℕ → Frame
frame_of bs = record { left = sample_of (slice_index bs 0) (slice_index bs 1); right = sample_of (slice_index bs 2) (slice_index bs 3) }

abbrev pub frames_of : List ℕ → List Frame
frames_of [] = []
frames_of (a ∷ []) = []
frames_of (a ∷ b ∷ []) = []
frames_of (a ∷ b ∷ c ∷ []) = []
frames_of (a ∷ b ∷ c ∷ d ∷ bs) = frame_of (a ∷ b ∷ c ∷ d ∷ []) ∷ frames_of bs
