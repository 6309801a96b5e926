-- any gathers what was looked at.
use Rattle.std.proofs.Common.{◌≡◌, ◌&&◌, eqb, drop}
use Rattle.ripemd.specs.State.{zeros}
use Rattle.ripemd.proofs.states.all_zero.Given as goal

abbrev pub invariant-loop-x : goal.invariant-loop-x
invariant-loop-x l = zeros l.a ≡ (eqb l.any 0 && zeros (drop l.x-index l.a))
