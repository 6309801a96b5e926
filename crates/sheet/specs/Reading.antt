-- What reading a sheet gives.
-- Assumes nothing.
use Rattle.std.specs.Prelude.{ℕ, ◌+◌, ◌*◌, ◌^◌, ◌<◌, ◌≡◌, Bool, true, cond, not, List, [], ◌∷◌, ◌++◌, leb, ltb, eqb, length, take, drop}
use Rattle.std.specs.List.{fold}
use Rattle.compress.specs.Block.{used_of}
use Rattle.compress.specs.declared.Width.{Width}
use Rattle.compress.specs.declared.Width.TheVariants.{W128, W160, W256, W320}
use Rattle.ripemd.specs.Refusals.{Row, ◌when◌, first, done}
use Rattle.ripemd.specs.State.{zeros, wrong_start, fresh_of, moved}
use Rattle.ripemd.specs.Feed.{as_tail}
use Rattle.ripemd.specs.Record.{words_in}
use Rattle.ripemd.specs.declared.State.{State}
use Rattle.text.specs.Text.{ascii}
use Rattle.shape.specs.declared.Class.TheVariants.{Hex}
use Rattle.shape.specs.Shape.{Shape, ended, either, reach, text, many, pairs, number, run_of, numeral_of}
use Rattle.shape.specs.Digits.{value_of, unhex_of}
use Rattle.sheet.specs.declared.Far.{Far}
use Rattle.sheet.specs.Answers.{Readout}
use Rattle.sheet.specs.Sheet.{name_of}

-- ---- the shape of a sheet, from its end
-- the last line feed
abbrev pub end_shape : Shape
end_shape = text (ascii "\n") ended

-- the last line, from the line feed before it
abbrev pub tail_shape : Shape
tail_shape = text (ascii "\ntail=") (pairs 63 end_shape)

-- the lines from the one of the words on, of n hex digits, from the line feed before it
abbrev pub words_shape : ℕ → Shape
words_shape n = text (ascii "\nwords=") (many Hex n tail_shape)

-- what stands before a block count
unfoldable pub head_of : Width → List ℕ
head_of w = ascii "width=" ++ name_of w ++ ascii "\nblocks="

-- the sheets of a width
abbrev pub shape_of : Width → Shape
shape_of w = text (head_of w) (number 16 (words_shape (8 * used_of w)))

-- every sheet
abbrev pub sheet_shape : Shape
sheet_shape = either (either (either (shape_of W128) (shape_of W160)) (shape_of W256)) (shape_of W320)

-- where a text leaves every sheet
abbrev pub place_of : List ℕ → ℕ
place_of l = reach sheet_shape l

-- the whole text is a sheet
abbrev pub is_sheet : List ℕ → Bool
is_sheet l = ltb (length l) (reach sheet_shape l)

-- of the widths so far, that along whose sheets a text goes farthest, and of a further one
unfoldable pub farther_of : List ℕ → Far → Width → Far
farther_of l f w = cond (ltb f.place (reach (shape_of w) l)) (record { place = reach (shape_of w) l; width = w }) f

-- the widths, in the order in which reading looks at them
abbrev pub widths : List Width
widths = W128 ∷ W160 ∷ W256 ∷ W320 ∷ []

-- of all widths, that along whose sheets a text goes farthest
unfoldable pub farthest_of : List ℕ → Far
farthest_of l = fold (farther_of l) (record { place = 0; width = W160 }) widths

-- the width of a sheet
abbrev pub width_in : List ℕ → Width
width_in l = (farthest_of l).width

-- ---- what a sheet holds
-- how many digits the block count has, behind the 17 bytes of the head
abbrev pub digits_in : List ℕ → ℕ
digits_in l = numeral_of 16 (drop 17 l)

-- the block count
unfoldable pub count_in : List ℕ → ℕ
count_in l = value_of 0 (take (digits_in l) (drop 17 l))

-- where the words' hex digits start
abbrev pub words_at : List ℕ → ℕ
words_at l = 17 + digits_in l + 7

-- n word bytes
unfoldable pub word_bytes_in : ℕ → List ℕ → List ℕ
word_bytes_in n l = unhex_of (take (2 * n) (drop (words_at l) l))

-- where the tail's hex digits start, behind n word bytes
abbrev pub tail_at : ℕ → List ℕ → ℕ
tail_at n l = words_at l + 2 * n + 6

-- how many there are
abbrev pub tail_digits : ℕ → List ℕ → ℕ
tail_digits n l = run_of Hex 126 (drop (tail_at n l) l)

-- the tail bytes
unfoldable pub tail_in : ℕ → List ℕ → List ℕ
tail_in n l = unhex_of (take (tail_digits n l) (drop (tail_at n l) l))

-- the state of a width with that count, those word bytes and tail bytes
unfoldable pub state_with : Width → ℕ → List ℕ → List ℕ → State
state_with w n h t = moved (fresh_of w) (words_in w h) n (length t) (as_tail t)

-- the state in a sheet of a width
abbrev pub state_at : Width → List ℕ → State
state_at w l = state_with w (count_in l) (word_bytes_in (4 * used_of w) l) (tail_in (4 * used_of w) l)

-- the state in a sheet
abbrev pub state_in : List ℕ → State
state_in l = state_at (width_in l) l

-- ---- what read gives
-- what may be wrong with a state that a sheet holds: its count, then its start
abbrev pub held_rows : State → List Row
held_rows s = (5 when leb (2 ^ 55) s.count.0) ∷ (7 when wrong_start s.width s.words s.count.0) ∷ []

-- the number of read: 8 for a text that is no sheet, then what is wrong with the state
unfoldable pub read_number : List ℕ → ℕ
read_number l = first ((8 when not (is_sheet l)) ∷ held_rows (state_in l))

-- what read gives: the place with 8 alone, and a fresh 160 where it is refused
unfoldable pub read_of : List ℕ → Readout
read_of l =
    record {
      number = read_number l;
      place = cond (eqb (read_number l) 8) (place_of l) 0;
      state = done (read_number l) (state_in l) (fresh_of W160);
    }

-- ---- the code's two kinds of answer
-- a state's fill, tail and spare words are right, as they are in every state that a sheet holds
abbrev pub Plain : State → Type 0
Plain s = (s.fill < 64) × (zeros (drop s.fill s.tail) ≡ true) × (zeros (drop (used_of s.width) s.words) ≡ true)

-- the number for a sheet that holds s
unfoldable pub held_number : State → ℕ
held_number s = first (held_rows s)

-- what reading it gives
unfoldable pub held : State → Readout
held s = record { number = held_number s; place = 0; state = done (held_number s) s (fresh_of W160) }

-- for a refusal
abbrev pub refused_of : ℕ → ℕ → Readout
refused_of n p = record { number = n; place = p; state = fresh_of W160 }
