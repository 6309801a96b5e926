-- Examples of how far a text goes along a shape, and of digits.
-- Assumes nothing.
use Rattle.std.specs.Prelude.{◌≡◌, refl, [], ◌∷◌}
use Rattle.text.specs.Text.{ascii}
use Rattle.shape.specs.Shape.{allows_of, ended, reach, text, up_to, pairs, number}
use Rattle.shape.specs.Digits.{value_of, hex_value, unhex_of}

-- along 'n=' and a number of at most two digits: nothing; another byte; no digit; a second digit behind 0; a third digit; the whole, and one more
reaches :
    (reach (text (ascii "n=") (number 1 ended)) (ascii "") ≡ 0)
    × (reach (text (ascii "n=") (number 1 ended)) (ascii "m=1") ≡ 0)
    × (reach (text (ascii "n=") (number 1 ended)) (ascii "n=x") ≡ 2)
    × (reach (text (ascii "n=") (number 1 ended)) (ascii "n=01") ≡ 3)
    × (reach (text (ascii "n=") (number 1 ended)) (ascii "n=123") ≡ 4)
    × (reach (text (ascii "n=") (number 1 ended)) (ascii "n=12") ≡ 5)
unfolding reach text up_to number allows_of
reaches = (refl, refl, refl, refl, refl, refl)

-- half a byte is no byte
half : reach (pairs 2 (text (ascii ".") ended)) (ascii "0a0.") ≡ 3
unfolding reach text pairs allows_of
half = refl

values : (value_of 0 (ascii "1905") ≡ 1905) × (unhex_of (ascii "009cff") ≡ 0x00 ∷ 0x9c ∷ 0xff ∷ [])
unfolding value_of hex_value unhex_of
values = (refl, refl)
