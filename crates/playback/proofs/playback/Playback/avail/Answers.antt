use Rattle.std.proofs.Common.{rules}
use Rattle.geometry.proofs.Wrapping.{free_of}
use Rattle.playback.proofs.playback.Playback.avail.Goals as goal

pub returns : goal.returns
returns c = search (rules, free_of)
