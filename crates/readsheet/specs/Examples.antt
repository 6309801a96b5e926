-- What is written for some inputs.
-- Assumes nothing.
use Rattle.std.specs.Prelude.{ℕ, ◌≡◌, refl, Result, Ok}
use Rattle.ripemd.specs.State.{wrong_start}
use Rattle.text.specs.Text.{ascii, decimal_of, digits_of}
use Rattle.shape.specs.Shape.{allows_of, reach, text, many, up_to, pairs, number, run_of, numeral_of}
use Rattle.shape.specs.Digits.{value_of, hex_value, unhex_of}
use Rattle.sheet.specs.Reading.{head_of, farther_of, farthest_of, count_in, word_bytes_in, tail_in, state_with, read_number, read_of}
use Rattle.readsheet.specs.Lines.{feeds_of, line_at, held_line, place_line, line_for, answer_of}

-- reading ended at the end of the input
abbrev done : Result ℕ ℕ
done = Ok 0

-- the sheet of a fresh 160
fresh : answer_of done (ascii "width=160\nblocks=0\nwords=0123456789abcdeffedcba9876543210f0e1d2c3\ntail=\n") ≡ ascii "width=160 bytes=0 blocks=0 fill=0\n"
unfolding answer_of line_for held_line read_of read_number wrong_start state_with count_in word_bytes_in tail_in farthest_of farther_of head_of reach text many up_to pairs number run_of numeral_of allows_of value_of hex_value unhex_of decimal_of digits_of
fresh = refl

-- with another byte of its words, and with a count of 17 nines
refused :
    (answer_of done (ascii "width=160\nblocks=0\nwords=0023456789abcdeffedcba9876543210f0e1d2c3\ntail=\n") ≡ ascii "error=7 line=3\n")
    × (answer_of done (ascii "width=160\nblocks=99999999999999999\nwords=0123456789abcdeffedcba9876543210f0e1d2c3\ntail=\n") ≡ ascii "error=5 line=2\n")
unfolding answer_of line_for read_of read_number wrong_start state_with count_in word_bytes_in tail_in farthest_of farther_of head_of reach text many up_to pairs number run_of numeral_of allows_of value_of hex_value unhex_of
refused = (refl, refl)

-- nothing, and an upper-case digit in line 3
misshaped :
    (answer_of done (ascii "") ≡ ascii "error=8 place=0 line=1\n")
    × (answer_of done (ascii "width=160\nblocks=0\nwords=01234567A") ≡ ascii "error=8 place=33 line=3\n")
unfolding answer_of line_for place_line line_at feeds_of read_of read_number head_of reach text many up_to pairs number allows_of decimal_of digits_of
misshaped = (refl, refl)
