-- `compress::combine_crossed` meets its contract: the first i words are made.
-- Assumes nothing.
use mathlib.Core.Path.{◌≡◌}
use mathlib.Core.List.{◌++◌}
use Prim.Native.Nat.{◌-◌}
use lib.ListN.{replicate}
use Rattle.compress.proofs.Words.{crossed}
use Rattle.compress.proofs.combine_crossed.Given as goal

abbrev pub invariant-loop-i : goal.invariant-loop-i
invariant-loop-i l = l.new ≡ crossed l.n l.h l.l l.r l.i ++ replicate (10 - l.i) 0
