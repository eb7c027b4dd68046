-- A source that reads bytes, four to a frame.
--   memory            the bytes
--   next              how many frames were given
--   byte_points       the frames of the bytes that were not read are to come; a frame given changes nothing but the count
--   BytesStay        after any chain of gets the memory is as it was, and the count has risen by the number of frames
-- Assumes nothing.
use Rattle.std.specs.Prelude.{◌≡◌, ◌+◌, ◌*◌, List, length, drop, vec_items}
use Rattle.frames.specs.declared.frame.Frame.{Frame}
use Rattle.frames.specs.Layout.{frames_of}
use Rattle.sources.specs.declared.byte_source.ByteSource.{ByteSource}
use Rattle.sources.specs.Source.{SourcePoints, Gives}

abbrev pub byte_points : SourcePoints ByteSource
byte_points = record {
  coming = λ s. frames_of (drop (4 * s.next) (vec_items s.memory));
  gives = λ s f t. (t.memory ≡ s.memory) × (t.next ≡ s.next + 1);
}

abbrev pub BytesStay : Type 0
BytesStay = (s t : ByteSource) (fs : List Frame) → Gives byte_points s fs t → (t.memory ≡ s.memory) × (t.next ≡ s.next + length fs)
