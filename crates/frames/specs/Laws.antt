-- What the sums are, in other words, and what they make of two lists one after the other.
--   RoundsDown        floor_div z d is the greatest whole number that times d is at most z
--   GainJoins, ..     what a sum makes of A followed by B is what it makes of A, then what it makes of B after A
--   KeepsEveryMth    of the frames that keep passes, number i is frame i × M
--   LaterTapsOfZero taps of 0 behind the last one change nothing
--   ReadsBack         a frame written as bytes reads back as that frame
-- Assumes nothing.
use Rattle.std.specs.Prelude.{◌≡◌, ℕ, ◌*◌, ◌<◌, List, ◌++◌, map, reverse, length, replicate, ℤ, pos, ◌+ℤ◌, ◌*ℤ◌, ◌≤ℤ◌, ◌<ℤ◌, FitsSigned, slice_index_or}
use Rattle.std.specs.Int.{w16}
use Rattle.frames.specs.declared.frame.Frame.{Frame}
use Rattle.frames.specs.Layout.{bytes_of, frame_of}
use Rattle.frames.specs.Samples.{floor_div, gained_all, mixed_all}
use Rattle.frames.specs.Filter.{filtered}
use Rattle.frames.specs.Keep.{kept, falling}

abbrev pub RoundsDown : Type 0
RoundsDown = (z : ℤ) (d : ℕ) → 0 < d → ((floor_div z d *ℤ pos d) ≤ℤ z) × (z <ℤ ((floor_div z d *ℤ pos d) +ℤ pos d))

abbrev pub GainJoins : Type 0
GainJoins = (q : ℕ) (A B : List Frame) → gained_all q (A ++ B) ≡ gained_all q A ++ gained_all q B

abbrev pub MixJoins : Type 0
MixJoins = (A B C D : List Frame) → length A ≡ length C → mixed_all (A ++ B) (C ++ D) ≡ mixed_all A C ++ mixed_all B D

-- the inputs before B are those of A, the newest first, and then those before A
abbrev pub FilterJoins : Type 0
FilterJoins =
    (ts ls rs : List ℤ) (A B : List Frame)
    → filtered ts ls rs (A ++ B) ≡ filtered ts ls rs A ++ filtered ts (reverse (map (λ f. f.left) A) ++ ls) (reverse (map (λ f. f.right) A) ++ rs) B

abbrev pub KeepJoins : Type 0
KeepJoins = (M k : ℕ) (A B : List Frame) → kept M k (A ++ B) ≡ kept M k A ++ kept M (falling M k A) B

abbrev pub KeepsEveryMth : Type 0
KeepsEveryMth = (M : ℕ) → 0 < M → (fs : List Frame) (i : ℕ) (d : Frame) → slice_index_or (kept M 0 fs) i d ≡ slice_index_or fs (i * M) d

abbrev pub LaterTapsOfZero : Type 0
LaterTapsOfZero = (ts ls rs : List ℤ) (n : ℕ) (fs : List Frame) → filtered (ts ++ replicate n (pos 0)) ls rs fs ≡ filtered ts ls rs fs

abbrev pub ReadsBack : Type 0
ReadsBack = (f : Frame) → FitsSigned w16 f.left → FitsSigned w16 f.right → frame_of (bytes_of f) ≡ f
