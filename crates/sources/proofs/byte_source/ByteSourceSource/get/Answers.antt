use Rattle.std.proofs.Common.{◌/◌, ◌≤◌, length, refl, arith}
use Rattle.sources.proofs.Reading.{read_all}
use Rattle.sources.proofs.byte_source.ByteSourceSource.get.Goals as goal

pub returns-then-self-len : goal.returns-then-self-len
returns-then-self-len c =
    let s = c.args.self.now in
    let past : length s.memory.items / 4 ≤ s.next = omega (arith, c.len.ensures, s.memory.ok.0) in
    (read_all s.memory.items s.next past, refl)
