use Rattle.std.proofs.Common.{◌≡◌, ◌-◌, length, ap, ◌∙◌, rules}
use Rattle.calls.specs.Told.{told}
use Rattle.capture.proofs.HostParts.{part_is, part_long, part_back}
use Rattle.capture.proofs.capture.Capture.copy_part.Goals as goal

pub returns : goal.returns
returns c =
    let host = c.args.host.now in
    let x = c.args.x in
    let n = c.args.n in
    let f = c.min-from.result in
    let e = c.min-end.result in
    let part = c.copy_by_parts.new.host in
    let same = part_is host x n f e c.min-from.ensures c.min-end.ensures in
    let long : length part ≡ e - f = c.copy_by_parts.auto.host ∙ ap length same ∙ part_long host x n f e c.min-from.ensures c.min-end.ensures in
    let answer : c.map.result ≡ told c.copy_by_parts.result = search rules in
    (part, rw answer (rw same at c.copy_by_parts.ensures), part_back host x n f e c.min-from.ensures c.min-end.ensures part long)
