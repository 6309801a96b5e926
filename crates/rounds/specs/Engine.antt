-- Parts of the engine at the fixed places.
-- Assumes nothing.
use Rattle.std.specs.Prelude.{Bool, true, false, ℕ}
use Rattle.tables.specs.declared.Size.{Size}
use Rattle.tables.specs.declared.Size.TheVariants.{Four, Five}
use Rattle.lines.specs.Steps.{Pair}
use Rattle.lines.specs.Places.{named_pair, placed_pair, exchanged_at}
use Rattle.lines.specs.declared.Both.{Both}

-- the registers at their places where the lines start, and where they end: all rounds bring each back to its place
unfoldable pub places_of : Size → Pair → Both
places_of z q = placed_pair z 0 q

-- and under their names
unfoldable pub names_of : Size → Both → Pair
names_of z p = named_pair z 0 p

-- lines that exchange registers exchange place n after round n
unfoldable pub exchanged_after : Bool → ℕ → Both → Both
exchanged_after true n p = exchanged_at n p
exchanged_after false n p = p

-- a size by whether it is five
abbrev pub size_if : Bool → Size
size_if true = Five
size_if false = Four
