use Rattle.ripemd.proofs.Well.{well}
use Rattle.ripemd.proofs.Pending.{fed_short}
use Rattle.ripemd.proofs.feeding.keep.Goals as goal

pub returns : goal.returns
returns c =
    let s = c.args.s.state.now in
    let w = well s c.args.s.sound in
    rw c.fill_up.ensures (fed_short s c.args.piece.now c.args.s.long w.fill w.tail c.requires)
