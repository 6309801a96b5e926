-- `compress::combine_own` meets its contract: the first i words of each line are made.
-- Assumes nothing.
use mathlib.Core.Path.{◌≡◌}
use Rattle.compress.proofs.Words.{both_sums}
use Rattle.compress.proofs.combine_own.Given as goal

abbrev pub invariant-loop-i : goal.invariant-loop-i
invariant-loop-i l = l.new ≡ both_sums l.n l.h l.l l.r l.i
