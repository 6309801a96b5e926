-- `ripemd::feeding::choose` meets its contract.
-- Assumes nothing.
use native.Mathlib.Omega.{arith}
use borrow.Author.Tests.{lt-ltb, eq-eqb}
use lib.Seq.{take_all}
use Rattle.ripemd.proofs.feeding.choose.Goals as goal

pub returns-then-fill-gt0 : goal.returns-then-fill-gt0
returns-then-fill-gt0 c =
    let a = c.args in
    simp (eq-eqb _ _ c.if-i-eq0.true, lt-ltb _ _ c.if-fill-gt0.true) (take_all 64 a.tail.now (omega arith))
