use Rattle.std.proofs.Common.{◌≡◌, ◌+◌, ◌≤◌, length, arith, rules}
use Rattle.boundary.proofs.Parts.{written_part}
use Rattle.boundary.proofs.writing.put_four.Goals as goal

pub returns : goal.returns
returns c =
    let out = c.args.out.now in
    let four : length c.args.bytes ≡ 4 = search rules in
    let room : c.args.at + length c.args.bytes ≤ length out = omega arith in
    (room, written_part out c.args.at _ c.args.bytes c.copy_from_slice.new.self c.copy_from_slice.ensures.after (omega arith) room)
