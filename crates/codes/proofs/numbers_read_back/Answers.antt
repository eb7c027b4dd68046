use Rattle.codes.proofs.Undoing.{refusals_undone, states_undone, kinds_undone}
use Rattle.codes.proofs.numbers_read_back.Goals as goal

pub returns : goal.returns
returns c = record { refusals = refusals_undone; states = states_undone; kinds = kinds_undone }
