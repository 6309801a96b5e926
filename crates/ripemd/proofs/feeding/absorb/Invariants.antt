-- h is the chain over the first i blocks.
use Rattle.std.proofs.Common.{◌≡◌, ◌++◌, take}
use Rattle.compress.specs.Block.{blocks_of}
use Rattle.ripemd.proofs.feeding.absorb.Given as goal

abbrev pub invariant-loop-i : goal.invariant-loop-i
invariant-loop-i l = l.h ≡ blocks_of l.w l.initial.h (take l.fill l.full ++ l.piece) l.i
