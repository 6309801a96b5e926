-- The engine's parts make the paper's compression.
-- Assumes nothing.
use mathlib.Core.Path.{◌≡◌, refl}
use mathlib.Core.List.{List}
use Prim.Native.Nat.{ℕ}
use mathlib.Core.Bool.{Bool, true, false}
use Rattle.tables.specs.Rule.{count_of}
use Rattle.tables.specs.declared.Size.{Size}
use Rattle.tables.specs.declared.Size.TheVariants.{Four, Five}
use Rattle.lines.specs.Steps.{Pair}
use Rattle.rounds.specs.Rounds.{rounds_of}
use Rattle.rounds.specs.Engine.{places_of, names_of}
use Rattle.rounds.proofs.Engine.{names_places}
use Rattle.compress.specs.Block.{size_of, start_of, exchanges_of, combine_of, compress_of}
use Rattle.compress.specs.Engine.{width_from}
use Rattle.compress.specs.declared.Width.{Width}
use Rattle.compress.specs.declared.Width.TheVariants.{W128, W160, W256, W320}

-- a width is its size, and whether its lines exchange registers
pub wide : (w : Width) → width_from (size_of w) (exchanges_of w) ≡ w
wide W128 = refl
wide W160 = refl
wide W256 = refl
wide W320 = refl

-- all rounds of a width from the pair q
abbrev pub all_rounds : Width → List ℕ → Pair → Pair
all_rounds w x q = rounds_of (size_of w) (exchanges_of w) x (count_of (size_of w)) q

pub whole : (w : Width) (h x : List ℕ)
    → combine_of w h (names_of (size_of w) (places_of (size_of w) (all_rounds w x (names_of (size_of w) (places_of (size_of w) (start_of w h)))))) ≡ compress_of w h x
unfolding compress_of
whole w h x = rw (names_places (size_of w) (start_of w h), names_places (size_of w) (all_rounds w x (start_of w h)))

-- of a size, whose lines exchange registers or don't
pub whole_from : (z : Size) (e : Bool) (h x : List ℕ)
    → combine_of (width_from z e) h (names_of z (places_of z (rounds_of z e x (count_of z) (names_of z (places_of z (start_of (width_from z e) h)))))) ≡ compress_of (width_from z e) h x
whole_from Four false h x = whole W128 h x
whole_from Five false h x = whole W160 h x
whole_from Four true h x = whole W256 h x
whole_from Five true h x = whole W320 h x
