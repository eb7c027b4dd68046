use Rattle.sources.proofs.Reading.{bytes_stay}
use Rattle.sources.proofs.byte_source.ByteSource.bytes_stay.Goals as goal

pub returns : goal.returns
returns c = bytes_stay
