-- `lines::walk` meets its contract: whenever the loop is tested, each line has run from `from` to j.
-- Assumes nothing.
use mathlib.Core.Path.{◌≡◌}
use Prim.Native.Nat.{◌-◌}
use Rattle.tables.specs.declared.Line.TheVariants.{Left, Right}
use Rattle.lines.specs.Places.{run_of}
use Rattle.lines.proofs.walk.Given as goal

abbrev pub invariant-loop-j : goal.invariant-loop-j
invariant-loop-j l =
    (l.left ≡ run_of l.z Left l.x l.from (l.j - l.from) l.initial.left) × (l.right ≡ run_of l.z Right l.x l.from (l.j - l.from) l.initial.right)
