-- `text::digits` meets its contract.
-- Assumes nothing.
use Prim.Native.Nat.{suc, ◌-◌}
use mathlib.Core.Path.{◌≡◌, ◌∙◌}
use mathlib.Core.List.{[], append-nil}
use native.Mathlib.Omega.{arith}
use lib.ListN.{drop, length-set, drop_of_length-le}
use Rattle.text.specs.Text.{decimal_of}
use Rattle.text.proofs.Numbers.{not_first, tenth, digit_more, digit_first}
use Rattle.text.proofs.digits.Goals as goal

pub loop-rest-init : goal.loop-rest-init
unfolding decimal_of
loop-rest-init c =
    let none : drop 20 c.args.room.now ≡ [] = drop_of_length-le c.args.room.now {i = 20} (omega arith) in
    (omega arith, omega arith, omega arith, rw (none, append-nil))

pub loop-rest-preserved : goal.loop-rest-preserved
loop-rest-preserved c =
    let l = c.loop-rest in
    let p = not_first l.first l.rest c.loop-rest-test.true l.invariant.2 in
    let e : suc (l.first - 1) ≡ l.first = omega arith in (
      omega arith,
      simp length-set l.invariant.1,
      rw e (tenth l.first l.rest l.invariant.2),
      digit_more l.room l.first l.rest (omega arith) (suc (l.first - 1)) e c.loop-rest-test.true ∙ l.invariant.3,
    )

pub returns : goal.returns
returns c = grind (arith, digit_first)
