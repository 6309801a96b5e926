-- `compress::compress_blocks` meets its contract: h is the chain over the blocks so far, and what follows them is left.
-- Assumes nothing.
use mathlib.Core.Path.{◌≡◌, refl, ap, sym, ◌∙◌}
use mathlib.Core.List.{[], ◌∷◌, ◌++◌}
use Prim.Native.Nat.{◌+◌, ◌*◌, ◌/◌}
use native.Mathlib.Omega.{arith}
use lib.ListN.{length, drop, length-drop}
use Rattle.std.proofs.Common.{length-append}
use Rattle.compress.specs.Block.{blocks_of}
use Rattle.compress.proofs.Chain.{block_more, rest_more, within_more}
use Rattle.compress.proofs.compress_blocks.Goals as goal

pub loop-block-init : goal.loop-block-init
unfolding blocks_of
loop-block-init c =
    let items = c.chunks_exact-block-items.ensures in
    record { chain = refl; size = rw c.into_iter-block-iterator.ensures.into_iter_gives items.size; left = rw c.into_iter-block-iterator.ensures.into_iter_gives items.rest; within = omega arith }

pub loop-block-preserved : goal.loop-block-preserved
loop-block-preserved c =
    let s = c.args.s.now in
    let block = c.in-Some.block.now in
    let rest = c.next.new.self.rest.now in
    let before = c.loop-block.invariant in
    let n = length c.loop-block.yielded in
    let steps = c.in-Some.ensures.steps in
    let one : length (c.loop-block.yielded ++ (c.in-Some.block ∷ [])) ≡ n + 1 = length-append c.loop-block.yielded (c.in-Some.block ∷ []) in
    let cut : drop (64 * n) s ≡ block ++ rest = sym before.left ∙ steps.1.0 in
    let long : length block ≡ 64 = steps.1.1 ∙ before.size in
    rw one
    (record {
      chain = rw (c.one_block.ensures, before.chain) (block_more s block rest n cut long c.args.w c.args.h.now);
      size = steps.0 ∙ before.size;
      left = rest_more s block rest n cut long;
      within = within_more s block rest n cut long before.within;
    })

pub returns : goal.returns
returns c =
    let s = c.args.s.now in
    let l = c.loop-block in
    let steps = c.in-None.ensures.steps in
    let d = length-drop (64 * length l.yielded) s in
    let r = ap length l.invariant.left in
    let e : length l.yielded ≡ length s / 64 = omega (arith, steps.1.0) in
    rw (l.invariant.chain, e)
