use Rattle.std.proofs.Common.{sym, ◌∙◌, arith, ◌++◌, take, length-take, length-drop, add-one}
use Rattle.compress.proofs.Chain.{blocks_none, blocks_next}
use Rattle.ripemd.proofs.Pending.{length_pending, block_is}
use Rattle.ripemd.proofs.feeding.absorb.Goals as goal

pub loop-i-init : goal.loop-i-init
loop-i-init c =
    let a = c.args in
    sym (blocks_none a.w a.words (take a.fill a.full.now ++ a.piece.now))

pub compress-requires : goal.compress-requires
compress-requires c =
    let a = c.args in
    let p = c.requires in
    let lp = length_pending a.full.now a.piece.now a.fill (omega arith) in
    rw (c.choose.ensures ∙ block_is a.full.now a.piece.now a.fill c.loop-i.i p.0 p.1 p.4) (simp (length-take, length-drop) (omega arith))

pub loop-i-preserved : goal.loop-i-preserved
loop-i-preserved c =
    let a = c.args in
    let i = c.loop-i.i in
    let p = c.requires in
    rw (
      add-one i,
      blocks_next a.w a.words (take a.fill a.full.now ++ a.piece.now) i,
      c.compress.ensures,
      c.loop-i.invariant,
      c.choose.ensures ∙ block_is a.full.now a.piece.now a.fill i p.0 p.1 p.4,
    )
