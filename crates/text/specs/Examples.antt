-- Examples of the texts.
-- Assumes nothing.
use Rattle.std.specs.Prelude.{◌≡◌, refl, [], ◌∷◌}
use Rattle.text.specs.Text.{decimal_of, digits_of, hex_digit, hex_of, appended, put_at}

zero_in_decimal : decimal_of 0 ≡ 48 ∷ []
unfolding decimal_of digits_of
zero_in_decimal = refl

-- 18446744073709551615
largest_in_decimal : decimal_of 18446744073709551615 ≡ 49 ∷ 56 ∷ 52 ∷ 52 ∷ 54 ∷ 55 ∷ 52 ∷ 52 ∷ 48 ∷ 55 ∷ 51 ∷ 55 ∷ 48 ∷ 57 ∷ 53 ∷ 53 ∷ 49 ∷ 54 ∷ 49 ∷ 53 ∷ []
unfolding decimal_of digits_of
largest_in_decimal = refl

-- 009cff
bytes_in_hex : hex_of (0x00 ∷ 0x9c ∷ 0xff ∷ []) ≡ 48 ∷ 48 ∷ 57 ∷ 99 ∷ 102 ∷ 102 ∷ []
unfolding hex_digit
bytes_in_hex = refl

-- "hi" into three bytes: from 1 on it fits, from 2 on it doesn't
in_three_bytes : (put_at (0 ∷ 0 ∷ 0 ∷ []) 1 (104 ∷ 105 ∷ []) ≡ 0 ∷ 104 ∷ 105 ∷ []) × (put_at (0 ∷ 0 ∷ 0 ∷ []) 2 (104 ∷ 105 ∷ []) ≡ 0 ∷ 0 ∷ 0 ∷ [])
unfolding put_at
in_three_bytes = (refl, refl)

-- the same behind one byte of three, and behind two
appended_in_three : (appended 3 (46 ∷ []) (104 ∷ 105 ∷ []) ≡ 46 ∷ 104 ∷ 105 ∷ []) × (appended 3 (46 ∷ 46 ∷ []) (104 ∷ 105 ∷ []) ≡ 46 ∷ 46 ∷ [])
unfolding appended
appended_in_three = (refl, refl)
