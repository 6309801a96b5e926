-- `shape::digits::value` meets its contract.
-- Assumes nothing.
use mathlib.Core.Path.{◌≡◌}
use Prim.Native.Nat.{◌+◌, ◌*◌, ◌^◌, ◌≤◌}
use lib.ListN.{drop}
use Rattle.shape.specs.Digits.{value_of}
use Rattle.shape.proofs.digits.value.Given as goal

abbrev pub invariant-loop-b : goal.invariant-loop-b
invariant-loop-b l = (l.x + 2 ≤ 2 * 10 ^ l.b-index) × (value_of 0 l.s ≡ value_of l.x (drop l.b-index l.s))
