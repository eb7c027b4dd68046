use Rattle.std.proofs.Common.{w16, SFits, rules}
use Rattle.std.proofs.lemmas.Int.{to_z-of_z}
use Rattle.sources.proofs.Stepped.{stepped}
use Rattle.sources.proofs.step_source.StepSourceSource.get.Goals as goal

pub returns : goal.returns
returns c =
    let s = c.args.self.now in
    let t = c.advance.new.self in
    let fits : SFits w16 s.sample = search rules in
    (simp to_z-of_z (stepped s.sample s.step s.count t.sample t.step t.count fits c.advance.ensures), c.advance.ensures)
