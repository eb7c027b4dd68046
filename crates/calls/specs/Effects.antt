-- What an allowed call does to the state.
--   state_after effect s   the state after it, where s was the state before
-- Assumes nothing.
use Rattle.codes.specs.declared.state.State.{State}
use Rattle.calls.specs.declared.verdict.Effect.{Effect}
use Rattle.calls.specs.declared.verdict.Effect.TheVariants.{Stay, Move, Enter}

abbrev pub state_after : Effect → State → State
state_after Stay s = s
state_after Move s = s
state_after (Enter t) s = t
