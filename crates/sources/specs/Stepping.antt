-- A source of samples that rise in equal steps, the same in both channels.
--   step_frame v d i    the frame of number i: v plus i times d, wrapped to 16 bits
--   steps v d n         the first n of these frames, from number 0 on
--   Stepped v d n fs    fs has n frames, and the frame at each place i is the frame of number i
--   count               how many frames are to come
--   sample, step        the next sample, and how far the one after it is from it
--   Advances s t        t has one frame fewer to come than s, and begins one step on
--   step_points         `count` steps from `sample` on are to come, and a frame given advances the source
-- Assumes nothing.
use Rattle.std.specs.Prelude.{◌≡◌, ℕ, ◌+◌, ◌<◌, List, map, length, ℤ, pos, ◌+ℤ◌, ◌*ℤ◌, slice_index_or}
use Rattle.std.specs.List.{range_with_len}
use Rattle.std.specs.Int.{int_wrap, w16}
use Rattle.frames.specs.declared.frame.Frame.{Frame}
use Rattle.sources.specs.declared.step_source.StepSource.{StepSource}
use Rattle.sources.specs.Source.{SourcePoints}

abbrev pub step_frame : ℤ → ℤ → ℕ → Frame
step_frame v d i = let x : ℤ = int_wrap w16 (v +ℤ pos i *ℤ d) in record { left = x; right = x }

abbrev pub steps : ℤ → ℤ → ℕ → List Frame
steps v d n = map (step_frame v d) (range_with_len 0 n)

abbrev pub Stepped : ℤ → ℤ → ℕ → List Frame → Type 0
Stepped v d n fs = (length fs ≡ n) × ((i : ℕ) (z : Frame) → i < n → slice_index_or fs i z ≡ step_frame v d i)

abbrev pub Advances : StepSource → StepSource → Type 0
Advances s t = (t.count + 1 ≡ s.count) × (t.sample ≡ int_wrap w16 (s.sample +ℤ s.step)) × (t.step ≡ s.step)

abbrev pub step_points : SourcePoints StepSource
step_points = record { coming = λ s. steps s.sample s.step s.count; gives = λ s f t. Advances s t }
