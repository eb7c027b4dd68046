use Rattle.std.proofs.Common.{w16, SFits, rules}
use Rattle.std.proofs.lemmas.Int.{to_z-of_z}
use Rattle.sources.proofs.Stepped.{steps_stand}
use Rattle.sources.proofs.step_source.StepSource.new.Goals as goal

pub returns-clause-elements : goal.returns-clause-elements
returns-clause-elements c =
    let first : SFits w16 c.args.v = search rules in
    let step : SFits w16 c.args.d = search rules in
    simp to_z-of_z (steps_stand c.args.v c.args.d c.args.n)
