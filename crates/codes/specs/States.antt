-- The states of a stream.
--   state_number s    the number of the state s, as callers see it
--   state_name s      what a report calls it
-- Assumes nothing.
use Rattle.std.specs.Prelude.{ℕ, List, codes}
use Rattle.codes.specs.declared.state.State.{State}
use Rattle.codes.specs.declared.state.State.TheVariants.{Setup, Prepared, Running, Xrun, Draining, Paused}

abbrev pub state_number : State → ℕ
state_number Setup = 1
state_number Prepared = 2
state_number Running = 3
state_number Xrun = 4
state_number Draining = 5
state_number Paused = 6

abbrev pub state_name : State → List ℕ
state_name Setup = codes "SETUP"
state_name Prepared = codes "PREPARED"
state_name Running = codes "RUNNING"
state_name Xrun = codes "XRUN"
state_name Draining = codes "DRAINING"
state_name Paused = codes "PAUSED"
