-- `campaign::straight` is safe and ends.
-- Assumes nothing.
use Prim.Native.Nat.{◌*◌, ◌≤◌}
use Rattle.campaign.proofs.straight.Given as goal

abbrev pub invariant-loop-i : goal.invariant-loop-i
invariant-loop-i l = l.total ≤ 96 * l.i
