-- How a keep layer takes a frame, and how many.
--   keep_allowance b M k        with b frames allowed below and k still to fall: b × M + k, of at most 4,294,967,295
--   TakesBelow takes k s f t   where k frames are still to fall: with none, the sink below takes the frame; otherwise
--                               the frame falls, and the sink below stays as it is
-- Assumes nothing.
use Rattle.std.specs.Prelude.{◌≡◌, ℕ, zero, suc, ◌+◌, ◌*◌, min}
use Rattle.frames.specs.declared.frame.Frame.{Frame}

abbrev pub keep_allowance : ℕ → ℕ → ℕ → ℕ
keep_allowance b M k = min (b * M + k) 4294967295

abbrev pub TakesBelow : {D : Type 0} → (D → Frame → D → Type 0) → ℕ → D → Frame → D → Type 0
TakesBelow takes zero s f t = takes s f t
TakesBelow takes (suc k) s f t = t ≡ s
