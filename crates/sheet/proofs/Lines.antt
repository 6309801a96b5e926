-- The lines of a sheet, in the parts that the code puts and follows one after another.
-- Assumes nothing.
use Prim.Native.Nat.{ℕ, ◌+◌, ◌*◌, ◌≤◌, ◌<◌}
use mathlib.Core.Path.{◌≡◌, refl, ap, ◌∙◌}
use mathlib.Core.List.{List, [], ◌∷◌, ◌++◌, append_assoc}
use native.Mathlib.Omega.{arith}
use lib.ListN.{length, length-append}
use lib.Seq.{length-take-le}
use Rattle.compress.specs.Block.{used_of}
use Rattle.compress.specs.declared.Width.{Width}
use Rattle.compress.specs.declared.Width.TheVariants.{W128, W160, W256, W320}
use Rattle.compress.proofs.Kept.{used_le}
use Rattle.ripemd.specs.declared.State.{State}
use Rattle.ripemd.specs.State.{fault_of}
use Rattle.ripemd.proofs.Recorded.{used_bytes}
use Rattle.ripemd.proofs.Well.{well}
use Rattle.std.specs.List.{concat}
use Rattle.shape.proofs.Decimal.{decimal_few}
use Rattle.text.specs.Text.{ascii, decimal_of, hex_of}
use Rattle.text.proofs.Halves.{length_hex}
use Rattle.sheet.specs.Sheet.{name_of, text_of, words_shown, tail_shown, sheet_of}
use Rattle.sheet.specs.Reading.{head_of}

pub head_long : (w : Width) → length (head_of w) ≡ 17
unfolding head_of
head_long W128 = refl
head_long W160 = refl
head_long W256 = refl
head_long W320 = refl

-- what stands from each part on
abbrev pub from_tail : List ℕ → List ℕ
from_tail t = hex_of t ++ ascii "\n"

abbrev pub from_words : List ℕ → List ℕ → List ℕ
from_words h t = hex_of h ++ (ascii "\ntail=" ++ from_tail t)

abbrev pub from_count : ℕ → List ℕ → List ℕ → List ℕ
from_count n h t = decimal_of n ++ (ascii "\nwords=" ++ from_words h t)

-- four lines of a key and a value, each with the end e
four_lines : (a w b n c h d t e : List ℕ)
    → a ++ w ++ e ++ (b ++ n ++ e) ++ (c ++ h ++ e) ++ (d ++ t ++ e) ≡ a ++ w ++ (e ++ b) ++ (n ++ (e ++ c ++ (h ++ (e ++ d ++ (t ++ e)))))
four_lines a w b n c h d t e = simp append_assoc

pub in_parts : (w : Width) (n : ℕ) (h t : List ℕ) → text_of w n h t ≡ head_of w ++ from_count n h t
unfolding text_of head_of
in_parts w n h t = four_lines (ascii "width=") (name_of w) (ascii "blocks=") (decimal_of n) (ascii "words=") (hex_of h) (ascii "tail=") (hex_of t) (ascii "\n")

pub text_long : (w : Width) (n : ℕ) (h t : List ℕ)
    → length (text_of w n h t) ≡ 17 + length (decimal_of n) + 7 + 2 * length h + 6 + 2 * length t + 1
text_long w n h t = ap length (in_parts w n h t) ∙ simp length-append (omega (arith, head_long w, length_hex h, length_hex t))

-- ---- the sheet of a state
-- its parts, in the code's order
abbrev pub sheet_parts : State → List (List ℕ)
sheet_parts s =
    head_of s.width ∷ decimal_of s.count.0 ∷ ascii "\nwords=" ∷ hex_of (words_shown s) ∷
    ascii "\ntail=" ∷ hex_of (tail_shown s) ∷ ascii "\n" ∷ []

pub sheet_is : (s : State) → sheet_of s ≡ concat (sheet_parts s)
unfolding sheet_of
sheet_is s = in_parts s.width s.count.0 (words_shown s) (tail_shown s)

pub fill_few : (s : State) → fault_of s ≡ 0 → s.fill ≤ 64
fill_few s z = omega (arith, (well s z).fill)

pub sheet_long : (s : State) → length s.words ≡ 10 → length s.tail ≡ 64 → s.fill < 64
    → length (sheet_of s) ≡ 17 + length (decimal_of s.count.0) + 7 + 8 * used_of s.width + 6 + 2 * s.fill + 1
unfolding sheet_of
sheet_long s lw lt f =
    text_long s.width s.count.0 (words_shown s) (tail_shown s)
    ∙ omega (
      arith,
      used_bytes s.words (used_of s.width) (used_le s.width) lw,
      length-take-le s.fill s.tail (omega arith),
    )

pub sheet_fits : (s : State) → fault_of s ≡ 0 → length s.words ≡ 10 → length s.tail ≡ 64 → length (sheet_of s) ≤ 254
sheet_fits s z lw lt =
    let w = well s z in
    omega (arith, sheet_long s lw lt w.fill, w.fill, decimal_few s.count.0 (omega (arith, w.count)), used_le s.width)
