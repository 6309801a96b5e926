-- `compress::compress_blocks` meets its contract: h is the chain over the blocks so far, and what follows them is left.
-- Assumes nothing.
use mathlib.Core.Path.{◌≡◌}
use Prim.Native.Nat.{◌*◌, ◌≤◌}
use lib.ListN.{length, drop}
use Rattle.compress.specs.Block.{blocks_of}
use Rattle.compress.proofs.compress_blocks.Given as goal

abbrev pub invariant-loop-block : goal.invariant-loop-block
invariant-loop-block l =
    record {
      chain : l.h ≡ blocks_of l.w l.initial.h l.s (length l.yielded);
      size : l.block-iterator.size ≡ 64;
      left : l.block-iterator.rest.now ≡ drop (64 * length l.yielded) l.s;
      within : 64 * length l.yielded ≤ length l.s;
    }
