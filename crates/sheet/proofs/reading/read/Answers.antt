-- `sheet::reading::read` meets its contract.
-- Assumes nothing.
use native.Mathlib.Omega.{arith}
use Rattle.sheet.proofs.Answers.{plain_is}
use Rattle.sheet.proofs.reading.read.Goals as goal

pub held-requires : goal.held-requires
held-requires c =
    let f = c.farthest-f in
    let s = c.state_at in
    plain_is c.args.sheet.now f.result f.ensures (omega (arith, c.if-f-sheet.false)) s.result s.ensures
