-- `lines::walk` meets its contract: whenever the loop is tested, each line has run from `from` to j.
-- Assumes nothing.
use mathlib.Core.Path.{◌≡◌}
use Prim.Native.Nat.{◌-◌}
use native.Mathlib.Omega.{arith}
use borrow.Author.Rules.{rules}
use Rattle.tables.specs.declared.Line.TheVariants.{Left, Right}
use Rattle.lines.proofs.Runs.{run_zero, run_more}
use Rattle.lines.proofs.Pairs.{walk_runs}
use Rattle.lines.proofs.walk.Goals as goal

pub loop-j-init : goal.loop-j-init
loop-j-init c =
    let a = c.args in
    let e : a.from - a.from ≡ 0 = omega arith in
    rw e (run_zero a.z Left a.x.now a.from a.p.left (search rules), run_zero a.z Right a.x.now a.from a.p.right (search rules))

pub loop-j-preserved : goal.loop-j-preserved
loop-j-preserved c =
    let a = c.args in
    let l = c.loop-j in
    let more = run_more a.z a.x.now a.from l.j (omega arith) in
    (rw (c.line_step-y.ensures, l.invariant.0) (more Left _), rw (c.line_step-u.ensures, l.invariant.1) (more Right _))

pub returns : goal.returns
returns c =
    let a = c.args in
    let e : c.loop-j.j ≡ a.to = omega arith in
    rw (walk_runs a.z a.x.now a.from (a.to - a.from) a.p, c.loop-j.invariant.0, c.loop-j.invariant.1, e)
