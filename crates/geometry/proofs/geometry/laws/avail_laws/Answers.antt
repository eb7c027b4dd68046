use Rattle.std.proofs.Common.{rules}
use Rattle.geometry.proofs.Wrapping.{playback_free, captured_unread, playback_rule, capture_rule}
use Rattle.geometry.proofs.geometry.laws.avail_laws.Goals as goal

pub returns : goal.returns
returns c = search (rules, playback_free, captured_unread, playback_rule, capture_rule)
