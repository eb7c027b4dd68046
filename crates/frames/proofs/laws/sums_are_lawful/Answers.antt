use Rattle.frames.proofs.Joins.{filter_joins, keep_joins, keeps_every_mth}
use Rattle.frames.proofs.Mixing.{mix_joins}
use Rattle.frames.proofs.Weights.{later_taps_of_zero}
use Rattle.frames.proofs.laws.sums_are_lawful.Goals as goal

pub returns-clause-mix_joins : goal.returns-clause-mix_joins
returns-clause-mix_joins c = mix_joins

pub returns-clause-filter_joins : goal.returns-clause-filter_joins
returns-clause-filter_joins c = filter_joins

pub returns-clause-keep_joins : goal.returns-clause-keep_joins
returns-clause-keep_joins c = λ M k A B. keep_joins M k A B

pub returns-clause-keeps_every_mth : goal.returns-clause-keeps_every_mth
returns-clause-keeps_every_mth c = λ M h fs i d. keeps_every_mth M h fs i d

pub returns-clause-later_taps_of_zero : goal.returns-clause-later_taps_of_zero
returns-clause-later_taps_of_zero c = later_taps_of_zero
