-- `tables::order::table` meets its contract.
-- Assumes nothing.
use mathlib.Core.Path.{refl}
use Rattle.tables.specs.Rule.{order_of}
use Rattle.tables.specs.declared.Line.TheVariants.{Left, Right}
use Rattle.tables.proofs.Ruled.{ruled}
use Rattle.tables.proofs.order.table.Goals as goal

pub returns-in-Left : goal.returns-in-Left
unfolding order_of
returns-in-Left c = rw c.in-Left.is (ruled (order_of Left) 0 refl tt)

pub returns-in-Right : goal.returns-in-Right
unfolding order_of
returns-in-Right c = rw c.in-Right.is (ruled (order_of Right) 0 refl tt)
