-- A width by its parts.
-- Assumes nothing.
use Rattle.std.specs.Prelude.{Bool, true, false}
use Rattle.tables.specs.declared.Size.{Size}
use Rattle.tables.specs.declared.Size.TheVariants.{Four, Five}
use Rattle.compress.specs.declared.Width.{Width}
use Rattle.compress.specs.declared.Width.TheVariants.{W128, W160, W256, W320}

-- the width of a size, whose lines exchange registers or don't
abbrev pub width_from : Size → Bool → Width
width_from Four false = W128
width_from Five false = W160
width_from Four true = W256
width_from Five true = W320
