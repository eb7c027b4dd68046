-- Limits, each by itself.
--   frame_limit   no more frames are committed or given up by a source than this
--   lease_limit   no more leases are granted than this
-- Assumes nothing.
use Rattle.std.specs.Prelude.{ℕ}

abbrev pub frame_limit : ℕ
frame_limit = 4294967295

abbrev pub lease_limit : ℕ
lease_limit = 4294967295
