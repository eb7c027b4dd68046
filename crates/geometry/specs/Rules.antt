-- buffer: how many frames the ring of a stream holds.
-- period: how many frames make one period of it.
-- threshold: how many frames wait before playback starts by itself.
-- ledger: how many entries the ledger of a stream holds.
-- starts_at: the threshold that is meant, where it may be left unset.
-- Lawful: the numbers that a stream may have.
-- Wraps: what a boundary is to its buffer.
-- Assumes nothing.
use Rattle.std.specs.Prelude.{◌≡◌, ℕ, ◌+◌, ◌*◌, ◌%◌, ◌≤◌, Some, None, Option}

-- the threshold is one frame unless it is set
abbrev pub starts_at : Option ℕ → ℕ
starts_at None = 1
starts_at (Some frames) = frames

-- the buffer has 2 to 65536 frames; the period goes into it without rest, and at least twice;
-- the threshold lies within it; the ledger has 1 to 65536 entries
abbrev pub Lawful : ℕ → ℕ → ℕ → ℕ → Type 0
Lawful buffer period threshold ledger =
    ((2 ≤ buffer) × (buffer ≤ 65536))
    × ((1 ≤ period) × (buffer % period ≡ 0) × (2 * period ≤ buffer))
    × ((1 ≤ threshold) × (threshold ≤ buffer))
    × ((1 ≤ ledger) × (ledger ≤ 65536))

-- the boundary is at least two buffers, a buffer more is still at most 2147483647, and the buffer goes into it without rest
abbrev pub Wraps : ℕ → ℕ → Type 0
Wraps buffer boundary = (2 * buffer ≤ boundary) × (boundary + buffer ≤ 2147483647) × (boundary % buffer ≡ 0)
