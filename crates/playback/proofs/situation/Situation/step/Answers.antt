use Rattle.std.proofs.Common.{◌≡◌, refl, rules}
use Rattle.calls.specs.Told.{told, told_tick}
use Rattle.playback.proofs.situation.Situation.step.Goals as goal

pub returns-in-Begin-clause-rule : goal.returns-in-Begin-clause-rule
returns-in-Begin-clause-rule g c = rw c.in-Begin.is (rw c.tell_lease.ensures c.begin.ensures, record { sink_same = refl; memory_same = refl; ledger_same = refl })

pub returns-in-Commit-clause-rule : goal.returns-in-Commit-clause-rule
returns-in-Commit-clause-rule g c =
    let answer : c.map-in-Commit.result ≡ told c.commit.result = search rules in
    rw c.in-Commit.is (rw answer (rw c.new.ensures.parts at c.commit.ensures), record { sink_same = refl; memory_same = refl; ledger_same = refl })

pub returns-in-Put-Own-default-default-default-clause-rule : goal.returns-in-Put-Own-default-default-default-clause-rule
returns-in-Put-Own-default-default-default-clause-rule g c =
    let answer : c.map.result ≡ told c.put_by_parts.result = search rules in
    rw answer (search rules)

pub returns-in-Mix-Own-default-default-default-clause-rule : goal.returns-in-Mix-Own-default-default-default-clause-rule
returns-in-Mix-Own-default-default-default-clause-rule g c =
    let answer : c.map-in-Mix-Own-default-default-default.result ≡ told c.mix_by_parts.result = search rules in
    rw answer (search rules)

pub returns-in-Tick-Own-Own-default-clause-rule : goal.returns-in-Tick-Own-Own-default-clause-rule
returns-in-Tick-Own-Own-default-clause-rule g c =
    let answer : c.map-in-Tick-Own-Own-default.result ≡ told_tick c.tick.result = search rules in
    rw answer (search rules)
