-- `campaign::restarted` is safe and ends.
-- Assumes nothing.
use Prim.Native.Nat.{◌≤◌}
use Rattle.campaign.proofs.restarted.Given as goal

abbrev pub invariant-loop-i : goal.invariant-loop-i
invariant-loop-i l = l.restarts ≤ l.i
