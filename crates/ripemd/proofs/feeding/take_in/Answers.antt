use Rattle.std.proofs.Common.{rules, arith, ℕ, ◌+◌, ◌/◌, ap, ◌∙◌, List, ◌++◌, length, take}
use Rattle.compress.specs.Block.{blocks_of}
use Rattle.ripemd.proofs.Well.{well}
use Rattle.ripemd.proofs.Pending.{filled_keeps, filled_full, in_blocks, fed_long}
use Rattle.ripemd.proofs.feeding.take_in.Goals as goal

pub filled-full-requires : goal.filled-full-requires
filled-full-requires c = ((well c.args.s.state.now c.args.s.sound).fill, c.requires.1)

pub overflow_sub-piece : goal.overflow_sub-piece
overflow_sub-piece c =
    let s = c.args.s.state.now in
    let b = in_blocks s.fill (length c.args.piece.now) (well s c.args.s.sound).fill c.requires.1 in
    omega arith

pub absorb-requires : goal.absorb-requires
absorb-requires c =
    let s = c.args.s.state.now in
    let w = well s c.args.s.sound in
    (search rules, w.fill, omega arith, omega arith, λ h. rw c.filled-full.ensures (filled_full s.tail c.args.piece.now s.fill c.args.s.long w.fill h))

pub returns : goal.returns
returns c =
    let s = c.args.s.state.now in
    let p = c.args.piece.now in
    let w = well s c.args.s.sound in
    let b = in_blocks s.fill (length p) w.fill c.requires.1 in
    rw (c.as_tail.ensures, c.split_at.ensures.back)
    (fed_long s p c.args.s.long w.fill c.absorb.result (omega arith) b
    (c.absorb.ensures
    ∙ ap (λ (l : List ℕ). blocks_of s.width s.words (l ++ p) ((s.fill + length p) / 64))
    (ap (take s.fill) c.filled-full.ensures ∙ filled_keeps s.tail p s.fill c.args.s.long w.fill)))
