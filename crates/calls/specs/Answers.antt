-- What a call answers, and what a state makes of a call: each is what it should be, or the refusal.
--   Answer    an obeyed call's outcome
--   Verdict   an allowed call's effect on the state
-- Assumes nothing.
use Rattle.std.specs.Prelude.{Result}
use Rattle.codes.specs.declared.refusal.Refusal.{Refusal}
use Rattle.calls.specs.declared.answer.Outcome.{Outcome}
use Rattle.calls.specs.declared.verdict.Effect.{Effect}

abbrev pub Answer : Type 0
Answer = Result Outcome Refusal

abbrev pub Verdict : Type 0
Verdict = Result Effect Refusal
