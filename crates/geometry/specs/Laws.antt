-- Size: a number is the size of a buffer.
-- BoundaryRule: the boundary is the buffer doubled some times, and once more would pass the limit.
-- PlaceByPointer: the place of a frame can be had from its number or from the pointer of that.
-- PointerMoves: a pointer moves as its count does.
-- PlaybackFree, CapturedUnread: what the pointers of two counts say is available is what the counts say.
-- PlaybackRule, CaptureRule: the sums for pointers below the boundary.
-- Assumes nothing.
use Rattle.std.specs.Prelude.{◌≡◌, ℕ, ◌+◌, ◌-◌, ◌*◌, ◌%◌, ◌^◌, ◌<◌, ◌≤◌}
use Rattle.geometry.specs.Boundary.{boundary_for}
use Rattle.geometry.specs.Pointers.{pointer_of, place_of, playback_avail, capture_avail}

abbrev pub Size : ℕ → Type 0
Size s = (2 ≤ s) × (s ≤ 65536)

abbrev pub BoundaryRule : Type 0
BoundaryRule = (s : ℕ) → Size s
    → ((k : ℕ) × (boundary_for s ≡ s * 2 ^ k)) × (boundary_for s ≤ 2147483647 - s) × (2147483647 - s < 2 * boundary_for s)

abbrev pub PlaceByPointer : Type 0
PlaceByPointer = (s number : ℕ) → Size s → place_of s (pointer_of (boundary_for s) number) ≡ place_of s number

abbrev pub PointerMoves : Type 0
PointerMoves = (boundary count n : ℕ) → pointer_of boundary (pointer_of boundary count + n) ≡ pointer_of boundary (count + n)

-- the application has written a frames and the hardware has played h of them, so that a - h wait and the rest is free
abbrev pub PlaybackFree : Type 0
PlaybackFree = (s h a : ℕ) → Size s → h ≤ a → a - h ≤ s
    → playback_avail s (boundary_for s) (pointer_of (boundary_for s) h) (pointer_of (boundary_for s) a) ≡ s - (a - h)

-- the application has read u frames and the hardware has stored w more
abbrev pub CapturedUnread : Type 0
CapturedUnread = (s u w : ℕ) → Size s → w ≤ s
    → capture_avail (boundary_for s) (pointer_of (boundary_for s) (u + w)) (pointer_of (boundary_for s) u) ≡ w

abbrev pub PlaybackRule : Type 0
PlaybackRule = (s boundary h a : ℕ) → a < boundary
    → (playback_avail s boundary h a ≡ (h + s + boundary - a) % boundary) × (a ≤ h + s → playback_avail s boundary h a ≡ (h + s - a) % boundary)

abbrev pub CaptureRule : Type 0
CaptureRule = (boundary h a : ℕ) → a < boundary
    → (capture_avail boundary h a ≡ (h + boundary - a) % boundary) × (a ≤ h → capture_avail boundary h a ≡ (h - a) % boundary)
