-- hardware, application: the pointers of the two sides of a stream, here any numbers.
-- pointer_of: the pointer of a count of frames, which is the count wrapped at the boundary.
-- place_of: where in the buffer a frame stands, by its number.
-- playback_avail: how many frames are free to be written, hardware + buffer - application wrapped at the boundary.
-- capture_avail: how many frames wait to be read, hardware - application wrapped at the boundary.
--   In both the application's pointer is wrapped first, which leaves one below the boundary as it is.
-- area_length: how long an unbroken part of the buffer can be, from a place on.
-- Assumes nothing.
use Rattle.std.specs.Prelude.{ℕ, ◌+◌, ◌-◌, ◌%◌, min}

abbrev pub pointer_of : ℕ → ℕ → ℕ
pointer_of boundary count = count % boundary

abbrev pub place_of : ℕ → ℕ → ℕ
place_of buffer number = number % buffer

abbrev pub playback_avail : ℕ → ℕ → ℕ → ℕ → ℕ
playback_avail buffer boundary hardware application = (hardware + buffer + (boundary - application % boundary)) % boundary

abbrev pub capture_avail : ℕ → ℕ → ℕ → ℕ
capture_avail boundary hardware application = (hardware + (boundary - application % boundary)) % boundary

-- the least of what is wanted, what is available, and what is left of the buffer from a place on
abbrev pub area_length : ℕ → ℕ → ℕ → ℕ → ℕ
area_length buffer wanted avail place = min (min wanted avail) (buffer - place)
