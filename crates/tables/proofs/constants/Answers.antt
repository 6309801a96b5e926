-- `tables::constants` meets its contract.
-- Assumes nothing.
use mathlib.Core.Path.{refl}
use Rattle.tables.specs.Rule.{k_of}
use Rattle.tables.proofs.constants.Goals as goal

pub returns-in-Left : goal.returns-in-Left
unfolding k_of
returns-in-Left c = rw c.in-Left.is (λ n h. refl)

pub returns-in-Right : goal.returns-in-Right
unfolding k_of
returns-in-Right c = rw c.in-Right.is (λ n h. refl)
