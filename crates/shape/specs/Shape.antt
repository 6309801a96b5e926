-- Shapes of a text, byte by byte, and how far a text goes along a shape. Nothing here knows of a sheet.
-- Assumes nothing.
use Rattle.std.specs.Prelude.{ℕ, zero, suc, max, Bool, cond, ◌&&◌, ◌||◌, List, [], ◌∷◌, leb, eqb, Option, Some, None}
use Rattle.shape.specs.declared.Class.{Class}
use Rattle.shape.specs.declared.Class.TheVariants.{Just, Leading, Digit, Hex}

-- x is one of a to b
abbrev pub within : ℕ → ℕ → ℕ → Bool
within a b x = leb a x && leb x b

-- the bytes of a class: that byte alone; 1 to 9; 0 to 9; 0 to 9 and a to f
unfoldable pub allows_of : Class → ℕ → Bool
allows_of (Just b) x = eqb x b
allows_of Leading x = within 49 57 x
allows_of Digit x = within 48 57 x
allows_of Hex x = within 48 57 x || within 97 102 x

-- a shape: nothing more; a byte of a class and then a shape; either of two shapes
pub data Shape : Type 0 where
  ended : Shape
  byte : Class → Shape → Shape
  either : Shape → Shape → Shape

-- how many bytes of a text go along a shape; one more where the whole text has the shape
unfoldable pub reach : Shape → List ℕ → ℕ
reach ended [] = 1
reach ended (x ∷ l) = 0
reach (byte c s) [] = 0
reach (byte c s) (x ∷ l) = cond (allows_of c x) (suc (reach s l)) 0
reach (either s t) l = max (reach s l) (reach t l)

-- ---- shapes that are built of these
-- the bytes bs, then s
unfoldable pub text : List ℕ → Shape → Shape
text [] s = s
text (b ∷ bs) s = byte (Just b) (text bs s)

-- n bytes of a class, then s
unfoldable pub many : Class → ℕ → Shape → Shape
many c zero s = s
many c (suc n) s = byte c (many c n s)

-- at most n bytes of a class, then s
unfoldable pub up_to : Class → ℕ → Shape → Shape
up_to c zero s = s
up_to c (suc n) s = either s (byte c (up_to c n s))

-- at most n bytes in hex, then s
unfoldable pub pairs : ℕ → Shape → Shape
pairs zero s = s
pairs (suc n) s = either s (byte Hex (byte Hex (pairs n s)))

-- a number of at most n digits more than one, without leading zeros, then s
unfoldable pub number : ℕ → Shape → Shape
number n s = either (byte (Just 48) s) (byte Leading (up_to Digit n s))

-- ---- how long a part of a text is
-- how many bytes of l are those of bs
unfoldable pub along_of : List ℕ → List ℕ → ℕ
along_of [] l = 0
along_of (b ∷ bs) [] = 0
along_of (b ∷ bs) (x ∷ l) = cond (eqb x b) (suc (along_of bs l)) 0

-- how many first bytes of l are of a class, at most n
unfoldable pub run_of : Class → ℕ → List ℕ → ℕ
run_of c zero l = 0
run_of c (suc n) [] = 0
run_of c (suc n) (x ∷ l) = cond (allows_of c x) (suc (run_of c n l)) 0

-- how long the number is at the front of l, of at most n digits more than one; 0 where there is none
unfoldable pub numeral_of : ℕ → List ℕ → ℕ
numeral_of n [] = 0
numeral_of n (x ∷ l) = cond (eqb x 48) 1 (cond (allows_of Leading x) (suc (run_of Digit n l)) 0)

-- a length, where there is one: none has length 0
abbrev pub length_if : ℕ → Option ℕ
length_if zero = None
length_if (suc n) = Some (suc n)
