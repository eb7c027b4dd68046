-- The answers of calls as data: what a call returned, told in the words that histories use.
--   told, told_lease, told_tick, told_entry   by what an obeyed call returns: nothing, a lease, a tick's answer, an entry
--   handed                                    a lease in hand, if there is one, by its parts
-- Assumes nothing.
use Rattle.std.specs.Prelude.{Some, None, Ok, Err, Option, Result}
use Rattle.codes.specs.declared.refusal.Refusal.{Refusal}
use Rattle.calls.specs.Answers.{Answer}
use Rattle.calls.specs.declared.answer.Outcome.TheVariants as outcome
use Rattle.calls.specs.declared.answer.Ticked.{Ticked}
use Rattle.calls.specs.declared.entry.Entry.{Entry}
use Rattle.calls.specs.declared.lease.Lease.{Lease}
use Rattle.calls.specs.declared.lease_parts.LeaseParts.{LeaseParts}

abbrev pub told : Result Unit Refusal → Answer
told (Ok u) = Ok outcome.Done
told (Err why) = Err why

abbrev pub told_lease : {K : Type 0} → Result (Lease K) Refusal → Answer
told_lease (Ok l) = Ok (outcome.Granted l.parts)
told_lease (Err why) = Err why

abbrev pub told_tick : Result Ticked Refusal → Answer
told_tick (Ok t) = Ok (outcome.Ticked t)
told_tick (Err why) = Err why

abbrev pub told_entry : Result (Option Entry) Refusal → Answer
told_entry (Ok e) = Ok (outcome.Taken e)
told_entry (Err why) = Err why

abbrev pub handed : {K : Type 0} → Option (Lease K) → Option LeaseParts
handed None = None
handed (Some l) = Some l.parts
