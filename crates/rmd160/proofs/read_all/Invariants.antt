-- The state has taken what was read so far. It is longer after each turn, and stays below 2^61 bytes.
use Rattle.std.proofs.Common.{◌-◌, ◌^◌}
use Rattle.ripemd.specs.State.{taken_of}
use Rattle.rmd160.proofs.Taken.{Reads}
use Rattle.rmd160.proofs.read_all.Given as goal

abbrev pub invariant-loop-next : goal.invariant-loop-next
invariant-loop-next g l = Reads (g.R.Read.remaining l.fn.input) (g.R.Read.remaining l.input) l.s

abbrev pub decreases-loop-next : goal.decreases-loop-next
decreases-loop-next g l = 2 ^ 61 - taken_of l.s
