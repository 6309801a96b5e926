-- `shape::digits::value` meets its contract.
-- Assumes nothing.
use mathlib.Core.Path.{◌≡◌, ap, sym, ◌∙◌}
use Prim.Native.Nat.{ℕ}
use native.Mathlib.Omega.{arith}
use lib.ListN.{length, drop}
use Rattle.shape.specs.Digits.{value_of}
use Rattle.shape.proofs.Loops.{value_more, value_all, value_room, value_fits}
use Rattle.shape.proofs.digits.value.Goals as goal

pub overflow_mul-x : goal.overflow_mul-x
overflow_mul-x c = omega (arith, value_fits c.loop-b.x c.loop-b.b-index (omega arith) c.loop-b.invariant.0)

pub overflow_add-x : goal.overflow_add-x
overflow_add-x c = omega (arith, value_fits c.loop-b.x c.loop-b.b-index (omega arith) c.loop-b.invariant.0)

pub loop-b-preserved : goal.loop-b-preserved
loop-b-preserved c =
    let l = c.loop-b in
    let s = c.args.s.now in
    rw c.from.ensures
    (value_room l.x _ l.b-index (omega arith) l.invariant.0, l.invariant.1 ∙ sym (value_more s l.b-index l.x (omega arith)))

pub returns : goal.returns
returns c =
    let l = c.loop-b in
    let s = c.args.s.now in
    let e : l.b-index ≡ length s = omega arith in
    sym (l.invariant.1 ∙ ap (λ (i : ℕ). value_of l.x (drop i s)) e ∙ value_all s l.x)
