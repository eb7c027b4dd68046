use Rattle.std.proofs.Common.{rules}
use Rattle.std.proofs.lemmas.Int.{wraps}
use Rattle.sources.proofs.step_source.StepSource.advance.Goals as goal

pub returns : goal.returns
returns c = search (rules, wraps)
