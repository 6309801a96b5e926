-- The compression function at each width, after the pseudo-code of the RIPEMD-160 paper and of the designers' pages for RIPEMD-128, 256 and 320.
-- Chaining words are a list of ten; those that a width doesn't use are zero.
-- Assumes nothing.
use Rattle.std.specs.Prelude.{Bool, true, false, List, [], ◌∷◌, ℕ, zero, suc, ◌+◌, ◌*◌, get_or, take, drop}
use Rattle.words.specs.Words.{add_of}
use Rattle.words.specs.Bytes.{words_of}
use Rattle.tables.specs.Rule.{count_of}
use Rattle.tables.specs.declared.Size.{Size}
use Rattle.tables.specs.declared.Size.TheVariants.{Four, Five}
use Rattle.lines.specs.Steps.{Registers, Pair}
use Rattle.rounds.specs.Rounds.{rounds_of}
use Rattle.compress.specs.declared.Width.{Width}
use Rattle.compress.specs.declared.Width.TheVariants.{W128, W160, W256, W320}

-- how many of the ten words a width uses
abbrev pub used_of : Width → ℕ
used_of W128 = 4
used_of W160 = 5
used_of W256 = 8
used_of W320 = 10

-- how many registers its lines have, and how many rounds
abbrev pub size_of : Width → Size
size_of W128 = Four
size_of W160 = Five
size_of W256 = Four
size_of W320 = Five

-- the initial values h0, h1, ..
abbrev pub initial_of : Width → List ℕ
initial_of W128 =
    0x67452301 ∷ 0xefcdab89 ∷ 0x98badcfe ∷ 0x10325476 ∷ 0 ∷ 0 ∷ 0 ∷ 0 ∷ 0 ∷ 0 ∷ []
initial_of W160 =
    0x67452301 ∷ 0xefcdab89 ∷ 0x98badcfe ∷ 0x10325476 ∷ 0xc3d2e1f0 ∷ 0 ∷ 0 ∷ 0 ∷ 0 ∷ 0 ∷ []
initial_of W256 =
    0x67452301 ∷ 0xefcdab89 ∷ 0x98badcfe ∷ 0x10325476 ∷
    0x76543210 ∷ 0xfedcba98 ∷ 0x89abcdef ∷ 0x01234567 ∷ 0 ∷ 0 ∷ []
initial_of W320 =
    0x67452301 ∷ 0xefcdab89 ∷ 0x98badcfe ∷ 0x10325476 ∷ 0xc3d2e1f0 ∷
    0x76543210 ∷ 0xfedcba98 ∷ 0x89abcdef ∷ 0x01234567 ∷ 0x3c2d1e0f ∷ []

-- the words of h from i on, as A B C D or as A B C D E
abbrev pub registers_at : Size → List ℕ → ℕ → Registers
registers_at Four h i =
    record { a = get_or h i 0; b = get_or h (i + 1) 0; c = get_or h (i + 2) 0; d = get_or h (i + 3) 0; e = 0 }
registers_at Five h i =
    record { a = get_or h i 0; b = get_or h (i + 1) 0; c = get_or h (i + 2) 0; d = get_or h (i + 3) 0; e = get_or h (i + 4) 0 }

-- where the lines start: at widths 128 and 160 both from h0 on, at widths 256 and 320 the right line from the second half
abbrev pub start_of : Width → List ℕ → Pair
start_of W128 h = record { left = registers_at Four h 0; right = registers_at Four h 0 }
start_of W160 h = record { left = registers_at Five h 0; right = registers_at Five h 0 }
start_of W256 h = record { left = registers_at Four h 0; right = registers_at Four h 4 }
start_of W320 h = record { left = registers_at Five h 0; right = registers_at Five h 5 }

-- whether the lines exchange a register after each round: those that have words of their own
abbrev pub exchanges_of : Width → Bool
exchanges_of W128 = false
exchanges_of W160 = false
exchanges_of W256 = true
exchanges_of W320 = true

-- the new words, from the old words h and the lines' ends. At width 128
-- T := h1 + C + D'; h1 := h2 + D + A'; h2 := h3 + A + B'; h3 := h0 + B + C'; h0 := T, and at width 160
-- T := h1 + C + D'; h1 := h2 + D + E'; h2 := h3 + E + A'; h3 := h4 + A + B'; h4 := h0 + B + C'; h0 := T
unfoldable pub combine_of : Width → List ℕ → Pair → List ℕ
combine_of W128 h q =
    add_of (add_of (get_or h 1 0) q.left.c) q.right.d
    ∷ add_of (add_of (get_or h 2 0) q.left.d) q.right.a
    ∷ add_of (add_of (get_or h 3 0) q.left.a) q.right.b
    ∷ add_of (add_of (get_or h 0 0) q.left.b) q.right.c
    ∷ 0 ∷ 0 ∷ 0 ∷ 0 ∷ 0 ∷ 0 ∷ []
combine_of W160 h q =
    add_of (add_of (get_or h 1 0) q.left.c) q.right.d
    ∷ add_of (add_of (get_or h 2 0) q.left.d) q.right.e
    ∷ add_of (add_of (get_or h 3 0) q.left.e) q.right.a
    ∷ add_of (add_of (get_or h 4 0) q.left.a) q.right.b
    ∷ add_of (add_of (get_or h 0 0) q.left.b) q.right.c
    ∷ 0 ∷ 0 ∷ 0 ∷ 0 ∷ 0 ∷ []
combine_of W256 h q =
    add_of (get_or h 0 0) q.left.a
    ∷ add_of (get_or h 1 0) q.left.b
    ∷ add_of (get_or h 2 0) q.left.c
    ∷ add_of (get_or h 3 0) q.left.d
    ∷ add_of (get_or h 4 0) q.right.a
    ∷ add_of (get_or h 5 0) q.right.b
    ∷ add_of (get_or h 6 0) q.right.c
    ∷ add_of (get_or h 7 0) q.right.d
    ∷ 0 ∷ 0 ∷ []
combine_of W320 h q =
    add_of (get_or h 0 0) q.left.a
    ∷ add_of (get_or h 1 0) q.left.b
    ∷ add_of (get_or h 2 0) q.left.c
    ∷ add_of (get_or h 3 0) q.left.d
    ∷ add_of (get_or h 4 0) q.left.e
    ∷ add_of (get_or h 5 0) q.right.a
    ∷ add_of (get_or h 6 0) q.right.b
    ∷ add_of (get_or h 7 0) q.right.c
    ∷ add_of (get_or h 8 0) q.right.d
    ∷ add_of (get_or h 9 0) q.right.e
    ∷ []

-- the words after one block, of which x are the sixteen message words
unfoldable pub compress_of : Width → List ℕ → List ℕ → List ℕ
compress_of w h x = combine_of w h (rounds_of (size_of w) (exchanges_of w) x (count_of (size_of w)) (start_of w h))

-- the words after the first n blocks of the bytes s
unfoldable pub blocks_of : Width → List ℕ → List ℕ → ℕ → List ℕ
blocks_of w h s zero = h
blocks_of w h s (suc n) = compress_of w (blocks_of w h s n) (words_of 16 (take 64 (drop (64 * n) s)))
