use Rattle.sources.proofs.Chains.{chains_join, chains_take}
use Rattle.sources.proofs.getting.chains_stand.Goals as goal

pub returns : goal.returns
returns g c = record { rule = chains_join g.S.Source.shows; elements = chains_take g.S.Source.shows }
