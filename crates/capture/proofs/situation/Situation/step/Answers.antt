use Rattle.std.proofs.Common.{◌≡◌, refl, rules}
use Rattle.calls.specs.Told.{told, told_tick}
use Rattle.capture.proofs.CopySteps.{copy_step}
use Rattle.capture.proofs.situation.Situation.step.Goals as goal

pub returns-in-Begin-clause-rule : goal.returns-in-Begin-clause-rule
returns-in-Begin-clause-rule g c =
    rw c.in-Begin.is (rw c.tell_lease.ensures c.begin.ensures, record { source_same = refl; memory_same = refl; ledger_same = refl; host_same = refl })

pub returns-in-Commit-clause-rule : goal.returns-in-Commit-clause-rule
returns-in-Commit-clause-rule g c =
    let answer : c.map.result ≡ told c.commit.result = search rules in
    rw c.in-Commit.is (rw answer (rw c.new.ensures.parts at c.commit.ensures), record { source_same = refl; memory_same = refl; ledger_same = refl; host_same = refl })

pub returns-in-Copy-clause-rule : goal.returns-in-Copy-clause-rule
returns-in-Copy-clause-rule g c =
    rw c.in-Copy.is (copy_step g.R.Source.shows c.in-Copy.given _ _ _ _ _ _ _ _ _ _ _ c.copy_given.ensures)

pub returns-in-Drop-Own-clause-rule : goal.returns-in-Drop-Own-clause-rule
returns-in-Drop-Own-clause-rule g c =
    let answer : c.map-in-Drop-Own.result ≡ told c.drop.result = search rules in
    rw answer (search rules)

pub returns-in-Tick-Own-Own-default-clause-rule : goal.returns-in-Tick-Own-Own-default-clause-rule
returns-in-Tick-Own-Own-default-clause-rule g c =
    let answer : c.map-in-Tick-Own-Own-default.result ≡ told_tick c.tick.result = search rules in
    rw answer (search rules)
