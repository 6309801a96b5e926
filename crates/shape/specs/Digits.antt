-- The numbers and bytes that digits stand for. Each is defined for every byte, so that nothing is asked of a text.
-- Assumes nothing.
use Rattle.std.specs.Prelude.{ℕ, ◌+◌, ◌*◌, ◌%◌, cond, List, [], ◌∷◌, ltb}

-- the number of which n are the digits so far, and these the further ones, in decimal: a digit's value is its low half
unfoldable pub value_of : ℕ → List ℕ → ℕ
value_of n [] = n
value_of n (x ∷ l) = value_of (n * 10 + x % 16) l

-- a hex digit's value: the low half of 0 to 9, and nine more than the low half of a to f
unfoldable pub hex_value : ℕ → ℕ
hex_value x = cond (ltb x 97) (x % 16) ((x % 16 + 9) % 16)

-- the bytes of which these are the hex digits, two a byte, high half first
unfoldable pub unhex_of : List ℕ → List ℕ
unhex_of [] = []
unhex_of (x ∷ []) = []
unhex_of (x ∷ y ∷ l) = (hex_value x * 16 + hex_value y) ∷ unhex_of l
