-- `tables::shift::table` meets its contract.
-- Assumes nothing.
use mathlib.Core.Path.{refl}
use Rattle.tables.specs.Rule.{shift_of, order_of}
use Rattle.tables.specs.declared.Line.TheVariants.{Left, Right}
use Rattle.tables.proofs.Ruled.{ruled}
use Rattle.tables.proofs.shift.table.Goals as goal

pub returns-in-Left : goal.returns-in-Left
unfolding shift_of order_of
returns-in-Left c = rw c.in-Left.is (ruled (shift_of Left) 5 refl tt)

pub returns-in-Right : goal.returns-in-Right
unfolding shift_of order_of
returns-in-Right c = rw c.in-Right.is (ruled (shift_of Right) 5 refl tt)
