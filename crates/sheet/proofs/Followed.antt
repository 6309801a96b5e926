-- How far a text goes along each line of a sheet, in the code's steps.
-- Assumes nothing.
use Prim.Native.Nat.{ℕ, zero, suc, ◌+◌, ◌*◌, ◌%◌, ◌≤◌, ◌<◌}
use mathlib.Core.Path.{◌≡◌, refl, ap, sym, ◌∙◌}
use mathlib.Core.List.{List, [], ◌∷◌}
use native.Mathlib.Omega.{arith}
use borrow.Author.Tests.{ne_eqb}
use lib.ListN.{length, get_or, drop}
use lib.Seq.{drop-drop}
use Rattle.std.proofs.Common.{Some, None}
use Rattle.std.specs.List.{slice_range}
use Rattle.std.proofs.lemmas.List.{take_rest}
use Rattle.compress.specs.Block.{used_of}
use Rattle.compress.specs.declared.Width.{Width}
use Rattle.shape.specs.declared.Class.TheVariants.{Digit, Hex}
use Rattle.shape.specs.Shape.{Shape, ended, allows_of, reach, text, many, pairs, number, along_of, run_of, numeral_of, length_if}
use Rattle.text.specs.Text.{ascii}
use Rattle.shape.proofs.Parts.{Stops, along_in, run_in, digits_in_lem}
use Rattle.shape.proofs.Parts.{text_short, text_whole, many_short, many_whole, pairs_even, pairs_odd, number_none, number_some}
use Rattle.shape.proofs.Reach.{reach_in}
use Rattle.shape.proofs.Classes.{stop_feed, feed_hex, feed_digit}
use Rattle.sheet.specs.Reading.{end_shape, tail_shape, words_shape, head_of, shape_of}
use Rattle.sheet.proofs.Lines.{head_long}

pub after_tail : Stops Hex (text (ascii "\n") ended)
after_tail = stop_feed Hex feed_hex [] ended

pub after_count : (n : ℕ) → Stops Digit (words_shape n)
after_count n = stop_feed Digit feed_digit (ascii "words=") (many Hex n tail_shape)

none_is : (n : ℕ) → None ≡ length_if n → n ≡ 0
none_is zero e = refl
none_is (suc n) e = absurd (cc)

pub some_is : (d n : ℕ) → Some d ≡ length_if n → (d ≡ n) × (n ≡ 0 → ⊥)
some_is d zero e = absurd (cc)
some_is d (suc n) e = (cc, λ z. omega arith)

-- what the code reads of l from k on
abbrev pub from : ℕ → List ℕ → List ℕ
from k l = slice_range l k (length l)

-- ---- the tail's line
pub end_one : (l : List ℕ) → length l < 2 → 1 ≤ length l → get_or l 0 0 ≡ 10 → 2 ≡ reach end_shape l
unfolding reach text allows_of
end_one [] h k e = absurd (omega arith)
end_one (x ∷ []) h k e = rw e
end_one (x ∷ y ∷ l) h k e = absurd (omega arith)

pub end_more : (l : List ℕ) → 2 ≤ length l → get_or l 0 0 ≡ 10 → 1 ≡ reach end_shape l
unfolding reach text allows_of
end_more [] h e = absurd (omega arith)
end_more (x ∷ []) h e = absurd (omega arith)
end_more (x ∷ y ∷ l) h e = rw e

pub end_none : (l : List ℕ) → (1 ≤ length l → get_or l 0 0 ≡ 10 → ⊥) → 0 ≡ reach end_shape l
unfolding reach text allows_of
end_none [] k = refl
end_none (x ∷ l) k = rw (ne_eqb x 10 (k (omega arith)))

module _ (l : List ℕ) (key : ℕ) (e : key ≡ along_of (ascii "\ntail=") l) where
  pub tail_key : key < 6 → key ≡ reach tail_shape l
  tail_key k = omega (arith, text_short (ascii "\ntail=") (pairs 63 end_shape) l (omega arith))

  module _ (k : 6 ≤ key) where
    tail_is : reach tail_shape l ≡ 6 + reach (pairs 63 end_shape) (drop 6 l)
    tail_is = text_whole (ascii "\ntail=") (pairs 63 end_shape) l (omega arith)

    module _ (n : ℕ) (en : n ≡ run_of Hex 126 (from 6 l)) where
      run : n ≡ run_of Hex 126 (drop 6 l)
      run = en ∙ ap (run_of Hex 126) (take_rest l 6)

      pub tail_odd : ((6 + n) % 2 ≡ 0 → ⊥) → 6 + n ≡ reach tail_shape l
      tail_odd o =
          let p = pairs_odd end_shape after_tail 63 (drop 6 l) (λ z. o (omega (arith, run))) in
          omega (arith, tail_is, run)

      pub tail_even : (6 + n) % 2 ≡ 0 → 6 + n + reach end_shape (from (6 + n) l) ≡ reach tail_shape l
      tail_even z =
          let p = pairs_even end_shape after_tail 63 (drop 6 l) (omega (arith, run)) in
          let q : reach end_shape (drop (run_of Hex 126 (drop 6 l)) (drop 6 l)) ≡ reach end_shape (from (6 + n) l) =
          ap (reach end_shape) (ap (λ (m : ℕ). drop m (drop 6 l)) (sym run) ∙ drop-drop n 6 l ∙ sym (take_rest l (6 + n)))
          in
          omega (arith, tail_is, run)

-- ---- the words' line
module _ (l : List ℕ) (m key : ℕ) (e : key ≡ along_of (ascii "\nwords=") l) where
  pub words_key : key < 7 → key ≡ reach (words_shape m) l
  words_key k = omega (arith, text_short (ascii "\nwords=") (many Hex m tail_shape) l (omega arith))

  module _ (k : 7 ≤ key) where
    words_is : reach (words_shape m) l ≡ 7 + reach (many Hex m tail_shape) (drop 7 l)
    words_is = text_whole (ascii "\nwords=") (many Hex m tail_shape) l (omega arith)

    module _ (n : ℕ) (en : n ≡ run_of Hex m (from 7 l)) where
      digits : n ≡ run_of Hex m (drop 7 l)
      digits = en ∙ ap (run_of Hex m) (take_rest l 7)

      pub words_short : n < m → 7 + n ≡ reach (words_shape m) l
      words_short o = omega (arith, words_is, digits, many_short Hex tail_shape m (drop 7 l) (omega (arith, digits)))

      pub words_whole : m ≤ n → 7 + n + reach tail_shape (from (7 + n) l) ≡ reach (words_shape m) l
      words_whole o =
          let q : n ≡ m = omega (arith, digits, (run_in Hex m (drop 7 l)).1) in
          let p = many_whole Hex tail_shape m (drop 7 l) (omega (arith, digits)) in
          rw q (omega (arith, words_is, ap (reach tail_shape) (drop-drop m 7 l ∙ sym (take_rest l (7 + m)))))

-- ---- a whole sheet
module _ (l : List ℕ) (w : Width) (key : ℕ) (e : key ≡ along_of (head_of w) l) where
  abbrev rest : Shape
  rest = words_shape (8 * used_of w)

  pub head_key : key < 17 → key ≡ reach (shape_of w) l
  head_key k = omega (arith, text_short (head_of w) (number 16 rest) l (omega (arith, head_long w)))

  module _ (k : 17 ≤ key) where
    head_is : reach (shape_of w) l ≡ 17 + reach (number 16 rest) (drop 17 l)
    head_is =
        text_whole (head_of w) (number 16 rest) l (omega (arith, head_long w))
        ∙ ap (λ (m : ℕ). m + reach (number 16 rest) (drop m l)) (head_long w)

    count_is : numeral_of 16 (from 17 l) ≡ numeral_of 16 (drop 17 l)
    count_is = ap (numeral_of 16) (take_rest l 17)

    pub count_none : None ≡ length_if (numeral_of 16 (from 17 l)) → 17 ≡ reach (shape_of w) l
    count_none z = omega (arith, head_is, number_none rest (after_count (8 * used_of w)) 16 (drop 17 l) (sym count_is ∙ none_is _ z))

    pub count_some : (d : ℕ) → Some d ≡ length_if (numeral_of 16 (from 17 l)) → 17 + d + reach rest (from (17 + d) l) ≡ reach (shape_of w) l
    count_some d z =
        let e : d ≡ numeral_of 16 (drop 17 l) = (some_is d _ z).0 ∙ count_is in
        let p = number_some rest (after_count (8 * used_of w)) 16 (drop 17 l) (λ q. (some_is d _ z).1 (count_is ∙ q)) in
        let q : reach rest (drop (numeral_of 16 (drop 17 l)) (drop 17 l)) ≡ reach rest (from (17 + d) l) =
        ap (reach rest) (ap (λ (m : ℕ). drop m (drop 17 l)) (sym e) ∙ drop-drop d 17 l ∙ sym (take_rest l (17 + d)))
        in
        omega (arith, head_is)

-- ---- the steps of the code that follows each line
pub ruleset end_steps = (end_one, end_more, end_none)

pub ruleset tail_steps = (along_in, run_in, reach_in, tail_key, tail_odd, tail_even)

pub ruleset words_steps = (along_in, run_in, reach_in, words_key, words_short, words_whole)

pub ruleset sheet_steps = (along_in, digits_in_lem, reach_in, head_key, count_none, count_some)
