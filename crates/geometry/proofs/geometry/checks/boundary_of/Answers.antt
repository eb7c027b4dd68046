use Rattle.std.proofs.Common.{arith, rules}
use Rattle.geometry.proofs.Doubling.{raised, boundary_corrected, boundary_straight, boundary_wraps}
use Rattle.geometry.proofs.geometry.checks.boundary_of.Goals as goal

pub overflow_sub-doublings : goal.overflow_sub-doublings
overflow_sub-doublings c = let t = raised c.args.buffer c.requires.least c.requires.most in omega (arith, t.1)

pub returns-then-buffer-doublings : goal.returns-then-buffer-doublings
returns-then-buffer-doublings c =
    let w = boundary_wraps c.args.buffer (c.requires.least, c.requires.most) in search (rules, boundary_corrected, w)

pub returns-else-buffer-doublings : goal.returns-else-buffer-doublings
returns-else-buffer-doublings c =
    let w = boundary_wraps c.args.buffer (c.requires.least, c.requires.most) in search (rules, boundary_straight, w)
