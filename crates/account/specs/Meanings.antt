-- What each state of a stream means.
--   PlaybackMeans s waiting threshold out   what state s says of a playback stream: of how many frames wait, by the start
--                                            threshold, and of the lease that is out
--   CaptureMeans s unread buffer out        the same of a capture stream: of how many frames are unread, by how many the
--                                            buffer holds
-- Assumes nothing.
use Rattle.std.specs.Prelude.{◌≡◌, ℕ, ◌<◌, None, Option}
use Rattle.codes.specs.declared.state.State.{State}
use Rattle.codes.specs.declared.state.State.TheVariants.{Setup, Prepared, Running, Xrun, Draining, Paused}
use Rattle.calls.specs.declared.lease_parts.LeaseParts.{LeaseParts}

-- an underrun leaves nothing waiting, and a sink that stopped leaves what it did not take, so XRUN says nothing
abbrev pub PlaybackMeans : State → ℕ → ℕ → Option LeaseParts → Type 0
PlaybackMeans Setup waiting threshold out = (waiting ≡ 0) × (out ≡ None)
PlaybackMeans Prepared waiting threshold out = waiting < threshold
PlaybackMeans Running waiting threshold out = 0 < waiting
PlaybackMeans Xrun waiting threshold out = Unit {0}
PlaybackMeans Draining waiting threshold out = (0 < waiting) × (out ≡ None)
PlaybackMeans Paused waiting threshold out = 0 < waiting

abbrev pub CaptureMeans : State → ℕ → ℕ → Option LeaseParts → Type 0
CaptureMeans Setup unread buffer out = (unread ≡ 0) × (out ≡ None)
CaptureMeans Prepared unread buffer out = (unread ≡ 0) × (out ≡ None)
CaptureMeans Running unread buffer out = unread < buffer
CaptureMeans Xrun unread buffer out = unread ≡ buffer
CaptureMeans Draining unread buffer out = 0 < unread
CaptureMeans Paused unread buffer out = unread < buffer
