-- The request's example, the sheet of a fresh 160 in full, and where some texts leave every sheet.
-- Assumes nothing.
use Rattle.std.specs.Prelude.{◌≡◌, refl, length}
use Rattle.compress.specs.declared.Width.TheVariants.{W160}
use Rattle.ripemd.specs.State.{fresh_of}
use Rattle.text.specs.Text.{ascii, decimal_of, digits_of, hex_digit}
use Rattle.shape.specs.Shape.{allows_of, reach, text, many, up_to, pairs, number}
use Rattle.sheet.specs.Sheet.{text_of, sheet_of}
use Rattle.sheet.specs.Reading.{head_of, place_of}

fresh_sheet : sheet_of (fresh_of W160) ≡ ascii "width=160\nblocks=0\nwords=0123456789abcdeffedcba9876543210f0e1d2c3\ntail=\n"
unfolding sheet_of text_of decimal_of digits_of hex_digit
fresh_sheet = refl

fresh_long : length (sheet_of (fresh_of W160)) ≡ 72
unfolding sheet_of text_of decimal_of digits_of hex_digit
fresh_long = refl

-- nothing; what all widths share; a width of no sheet; no count; a second digit behind 0; an eighteenth digit; an upper-case digit; words of
-- another width; a line feed too few, one too many, and one with a carriage return
places :
    (place_of (ascii "") ≡ 0)
    × (place_of (ascii "width=") ≡ 6)
    × (place_of (ascii "width=250") ≡ 8)
    × (place_of (ascii "width=160\nblocks=\n") ≡ 17)
    × (place_of (ascii "width=160\nblocks=00") ≡ 18)
    × (place_of (ascii "width=320\nblocks=123456789012345678\n") ≡ 34)
    × (place_of (ascii "width=160\nblocks=0\nwords=01234567A") ≡ 33)
    × (place_of (ascii "width=128\nblocks=0\nwords=0123456789abcdeffedcba9876543210f0e1d2c3\ntail=\n") ≡ 57)
    × (place_of (ascii "width=160\nblocks=0\nwords=0123456789abcdeffedcba9876543210f0e1d2c3\ntail=") ≡ 71)
    × (place_of (ascii "width=160\nblocks=0\nwords=0123456789abcdeffedcba9876543210f0e1d2c3\ntail=\n\n") ≡ 72)
    × (place_of (ascii "width=160\r\n") ≡ 9)
unfolding head_of reach text many up_to pairs number allows_of
places = (refl, refl, refl, refl, refl, refl, refl, refl, refl, refl, refl)
