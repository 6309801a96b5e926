-- The sheet of a state: four lines of text. When a text has a sheet's shape, and what writing gives.
-- Assumes nothing.
use Rattle.std.specs.Prelude.{ℕ, ◌*◌, ◌^◌, ◌<◌, ◌≡◌, not, List, [], ◌∷◌, ◌++◌, eqb, length, take}
use Rattle.words.specs.Bytes.{word_bytes, Below}
use Rattle.compress.specs.Block.{used_of}
use Rattle.compress.specs.declared.Width.{Width}
use Rattle.compress.specs.declared.Width.TheVariants.{W128, W160, W256, W320}
use Rattle.ripemd.specs.Refusals.{◌when◌, found, first, done}
use Rattle.ripemd.specs.State.{fault_of}
use Rattle.ripemd.specs.declared.State.{State}
use Rattle.text.specs.Text.{ascii, decimal_of, hex_of, line_of}

-- a width's three digits
abbrev pub name_of : Width → List ℕ
name_of W128 = ascii "128"
name_of W160 = ascii "160"
name_of W256 = ascii "256"
name_of W320 = ascii "320"

-- the sheet of a width, a block count, word bytes and tail bytes
unfoldable pub text_of : Width → ℕ → List ℕ → List ℕ → List ℕ
text_of w n h t = line_of "width" (name_of w) ++ line_of "blocks" (decimal_of n) ++ line_of "words" (hex_of h) ++ line_of "tail" (hex_of t)

-- a text has the right shape: it is the sheet of some width, of a block count of 1 to 17 digits, of as many word bytes as the width has, and
-- of 0 to 63 tail bytes
pub record Shaped (l : List ℕ) : Type 0 where
  pub width : Width
  pub count : ℕ
  pub words : List ℕ
  pub tail : List ℕ
  pub digits : count < 10 ^ 17
  pub words_are : Below 256 words
  pub words_long : length words ≡ 4 * used_of width
  pub tail_are : Below 256 tail
  pub tail_long : length tail < 64
  pub is : l ≡ text_of width count words tail

-- some text of the right shape begins with p
abbrev pub Begins : List ℕ → Type 0
Begins p = (rest : List ℕ) × Shaped (p ++ rest)

-- the word bytes of a state's record
abbrev pub words_shown : State → List ℕ
words_shown s = word_bytes (take (used_of s.width) s.words)

-- the tail bytes that are pending
abbrev pub tail_shown : State → List ℕ
tail_shown s = take s.fill s.tail

-- the sheet of a state
unfoldable pub sheet_of : State → List ℕ
sheet_of s = text_of s.width s.count.0 (words_shown s) (tail_shown s)

-- how long it is, and 0 where the state isn't well formed
unfoldable pub length_of : State → ℕ
length_of s = done (fault_of s) (length (sheet_of s)) 0

-- the number of write, for a lent output of n bytes
unfoldable pub write_number : State → ℕ → ℕ
write_number s n = first (found (fault_of s) ∷ (3 when not (eqb n (length (sheet_of s)))) ∷ [])

-- the output afterwards: as it was where write is refused
unfoldable pub write_bytes : State → List ℕ → List ℕ
write_bytes s o = done (write_number s (length o)) (sheet_of s) o
