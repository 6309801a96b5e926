-- `lines::line_step` meets its contract: the tables, the function and the constant are those of the step.
-- Assumes nothing.
use mathlib.Core.Path.{◌≡◌, ap}
use Prim.Native.Nat.{ℕ, ◌*◌, ◌<◌}
use native.Mathlib.Omega.{arith}
use lib.ListN.{get_or}
use Rattle.tables.specs.declared.Size.{Size}
use Rattle.tables.specs.Rule.{order_of, count_of}
use Rattle.tables.proofs.Rounds.{at_most_five}
use Rattle.lines.proofs.Runs.{one}
use Rattle.lines.proofs.line_step.Goals as goal

in_80 : (z : Size) (j : ℕ) → j < 16 * count_of z → j < 80
in_80 z j h = omega (arith, at_most_five z)

pub offset_bounds-x-i : goal.offset_bounds-x-i
offset_bounds-x-i c =
    omega (arith, c.requires.tables.order.at c.args.j (in_80 c.args.z c.args.j c.requires.in_range))

pub bounds-x-i : goal.bounds-x-i
bounds-x-i c =
    omega (arith, c.requires.tables.order.at c.args.j (in_80 c.args.z c.args.j c.requires.in_range))

pub step-requires : goal.step-requires
step-requires c =
    omega (arith, in_80 c.args.z c.args.j c.requires.in_range, c.requires.tables.shift.at c.args.j (in_80 c.args.z c.args.j c.requires.in_range), c.function-f.ensures)

pub returns : goal.returns
returns c =
    let x = c.args.x.now in
    let r : get_or c.args.r.now c.args.j 0 ≡ order_of c.args.l c.args.j = (c.requires.tables.order.at c.args.j (in_80 c.args.z c.args.j c.requires.in_range)).0 in
    rw c.step.ensures
    (one c.args.z c.args.l x c.args.j _ _ _ _ c.args.v
    c.function-f.ensures.0
    (ap (λ (n : ℕ). get_or x n 0) r)
    c.constant-c.ensures
    (c.requires.tables.shift.at c.args.j (in_80 c.args.z c.args.j c.requires.in_range)).0)
