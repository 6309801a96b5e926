-- `text::Text::of` meets its contract.
-- Assumes nothing.
use Rattle.std.proofs.Common.{arith}
use Rattle.text.proofs.Appended.{appended-fits}
use Rattle.text.proofs.Text.of.Goals as goal

pub returns : goal.returns
returns g c = grind (arith, appended-fits)
