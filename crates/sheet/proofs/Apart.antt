-- A text of a sheet's shape, taken apart: its parts stand where reading looks for them, and it is the sheet of what they are.
-- Assumes nothing.
use Rattle.std.proofs.Common.{Option, Some}
use Rattle.std.specs.Option.{IsSome}
use Rattle.std.proofs.lemmas.List.{take_rest}
use Prim.Native.Nat.{ℕ, zero, suc, ◌+◌, ◌*◌, ◌/◌, ◌%◌, ◌≤◌, ◌<◌}
use mathlib.Core.Path.{◌≡◌, refl, ap, sym, ◌∙◌}
use mathlib.Core.List.{List, [], ◌∷◌, ◌++◌}
use native.Mathlib.Omega.{arith}
use lib.ListN.{length, take, drop, length-append, length-drop, length-take, take-append-drop}
use lib.Seq.{drop-drop, length-take-le}
use Rattle.words.specs.Bytes.{Below}
use Rattle.compress.specs.Block.{used_of}
use Rattle.compress.specs.declared.Width.{Width}
use Rattle.text.specs.Text.{decimal_of, hex_of}
use Rattle.shape.specs.declared.Class.TheVariants.{Hex}
use Rattle.shape.specs.Shape.{Shape, ended, reach, text, many, pairs, number, run_of, numeral_of, length_if}
use Rattle.text.specs.Text.{ascii}
use Rattle.sheet.specs.Reading.{head_of}
use Rattle.sheet.specs.Sheet.{text_of, Shaped}
use Rattle.sheet.specs.Reading.{tail_shape, words_shape, shape_of, digits_in, count_in, words_at, word_bytes_in, tail_at, tail_digits, tail_in}
use Rattle.shape.proofs.Reach.{Right}
use Rattle.shape.proofs.Parts.{All, right_text, run_in, run_all, right_many, digits_in_lem, right_number, right_pairs}
use Rattle.sheet.proofs.Followed.{after_tail, after_count, some_is, from}
use Rattle.sheet.proofs.Lines.{head_long, in_parts}
use Rattle.shape.proofs.Hex.{hex_unhex, unhex_below, unhex_long}
use Rattle.shape.proofs.Decimal.{numeral_decimal, numeral_below, digits_numeral}

is_some : (n : ℕ) → (n ≡ 0 → ⊥) → IsSome (length_if n)
is_some zero k = absurd (k refl)
is_some (suc n) k = refl

right_ended : (l : List ℕ) → Right ended l → l ≡ []
unfolding reach
right_ended [] h = refl
right_ended (x ∷ l) h = absurd (omega arith)

module _ (w : Width) (l : List ℕ) (h : Right (shape_of w) l) where
  abbrev n : ℕ
  n = 4 * used_of w

  abbrev d : ℕ
  d = digits_in l

  abbrev p : ℕ
  p = words_at l

  abbrev q : ℕ
  q = tail_at n l

  abbrev k : ℕ
  k = tail_digits n l

  abbrev rest : Shape
  rest = words_shape (8 * used_of w)

  pub headed : (l ≡ head_of w ++ drop 17 l) × Right (number 16 rest) (drop 17 l)
  headed = rw (head_long w) at (right_text (head_of w) (number 16 rest) l h)

  pub head_room : 17 ≤ length l
  head_room = omega (arith, ap length headed.0 ∙ length-append (head_of w) (drop 17 l), head_long w)

  counted : (numeral_of 16 (drop 17 l) ≡ 0 → ⊥) × Right rest (drop (17 + d) l)
  counted = rw (drop-drop d 17 l) at (right_number rest (after_count (8 * used_of w)) 16 (drop 17 l) headed.1)

  pub count_room : (17 + d ≤ length l) × (d ≤ 17)
  count_room = let i = digits_in_lem 16 (drop 17 l) in (omega (arith, i.0, length-drop 17 l, head_room), omega (arith, i.1))

  keyed : (drop (17 + d) l ≡ ascii "\nwords=" ++ drop p l) × Right (many Hex (8 * used_of w) tail_shape) (drop p l)
  keyed = rw (drop-drop 7 (17 + d) l) at (right_text (ascii "\nwords=") (many Hex (8 * used_of w) tail_shape) (drop (17 + d) l) counted.1)

  worded : (2 * n ≤ length (drop p l)) × All Hex (take (2 * n) (drop p l)) × Right tail_shape (drop (p + 2 * n) l)
  worded =
      let e : 8 * used_of w ≡ 2 * n = omega arith in
      rw (e, drop-drop (2 * n) p l) at (right_many Hex tail_shape (8 * used_of w) (drop p l) keyed.1)

  key_room : p ≤ length l
  key_room =
      omega (arith, ap length keyed.0 ∙ length-append (ascii "\nwords=") (drop p l), length-drop (17 + d) l, length-drop p l, count_room.0)

  pub words_room : p + 2 * n ≤ length l
  words_room = omega (arith, worded.0, length-drop p l, key_room)

  ended_by : (drop (p + 2 * n) l ≡ ascii "\ntail=" ++ drop q l) × Right (pairs 63 (text (ascii "\n") ended)) (drop q l)
  ended_by =
      rw (drop-drop 6 (p + 2 * n) l) at (right_text (ascii "\ntail=") (pairs 63 (text (ascii "\n") ended)) (drop (p + 2 * n) l) worded.2)

  tailed : (k % 2 ≡ 0) × Right (text (ascii "\n") ended) (drop k (drop q l))
  tailed = right_pairs (text (ascii "\n") ended) after_tail 63 (drop q l) ended_by.1

  pub tail_room : q ≤ length l
  tail_room =
      omega (arith, ap length ended_by.0 ∙ length-append (ascii "\ntail=") (drop q l), length-drop (p + 2 * n) l, length-drop q l, words_room)

  pub tail_even : k ≡ 2 * (k / 2)
  tail_even = omega (arith, tailed.0)

  pub tail_few : (q + k ≤ length l) × (k ≤ 126)
  tail_few = let i = run_in Hex 126 (drop q l) in (omega (arith, i.0, length-drop q l, tail_room), omega (arith, i.1))

  last : drop k (drop q l) ≡ ascii "\n"
  last =
      let r = right_text (ascii "\n") ended (drop k (drop q l)) tailed.1 in
      r.0 ∙ ap (λ (m : List ℕ). ascii "\n" ++ m) (right_ended (drop 1 (drop k (drop q l))) r.1)

  -- the parts are decimal and hex of what is read of them
  words_long : length (take (2 * n) (drop p l)) ≡ 2 * n
  words_long = length-take-le (2 * n) (drop p l) worded.0

  tail_long : length (take k (drop q l)) ≡ 2 * (k / 2)
  tail_long = length-take-le k (drop q l) (run_in Hex 126 (drop q l)).0 ∙ tail_even

  pub tail_bytes : length (tail_in n l) ≡ k / 2
  unfolding tail_in
  tail_bytes = unhex_long (k / 2) (take k (drop q l)) tail_long

  -- what the code finds of where the parts stand
  found : numeral_of 16 (from 17 l) ≡ d
  found = ap (numeral_of 16) (take_rest l 17)

  count_text : take d (drop 17 l) ≡ decimal_of (count_in l)
  unfolding count_in
  count_text = sym (numeral_decimal (take d (drop 17 l)) (digits_numeral (drop 17 l) counted.0))

  words_text : take (2 * n) (drop p l) ≡ hex_of (word_bytes_in n l)
  unfolding word_bytes_in
  words_text = sym (hex_unhex n (take (2 * n) (drop p l)) words_long worded.1)

  tail_text : take k (drop q l) ≡ hex_of (tail_in n l)
  unfolding tail_in
  tail_text = sym (hex_unhex (k / 2) (take k (drop q l)) tail_long (run_all Hex 126 (drop q l)))

  pub apart : l ≡ text_of w (count_in l) (word_bytes_in n l) (tail_in n l)
  apart =
      headed.0
      ∙ ap (λ (m : List ℕ). head_of w ++ m)
      (sym (take-append-drop d (drop 17 l))
      ∙ ap (λ (m : List ℕ). take d (drop 17 l) ++ m)
      (drop-drop d 17 l ∙ keyed.0
      ∙ ap (λ (m : List ℕ). ascii "\nwords=" ++ m)
      (sym (take-append-drop (2 * n) (drop p l))
      ∙ ap (λ (m : List ℕ). take (2 * n) (drop p l) ++ m)
      (drop-drop (2 * n) p l ∙ ended_by.0
      ∙ ap (λ (m : List ℕ). ascii "\ntail=" ++ m)
      (sym (take-append-drop k (drop q l))
      ∙ ap (λ (m : List ℕ). take k (drop q l) ++ m) last)))))
      ∙ rw (count_text, words_text, tail_text) (sym (in_parts w (count_in l) (word_bytes_in n l) (tail_in n l)))

  -- what is read are bytes, as many words as the width has, and a tail shorter than a block
  pub words_read : Below 256 (word_bytes_in n l) × (length (word_bytes_in n l) ≡ n)
  unfolding word_bytes_in
  words_read = (unhex_below n (take (2 * n) (drop p l)) words_long, unhex_long n (take (2 * n) (drop p l)) words_long)

  pub tail_read : Below 256 (tail_in n l) × (length (tail_in n l) < 64)
  unfolding tail_in
  tail_read = (unhex_below (k / 2) (take k (drop q l)) tail_long, omega (arith, tail_bytes, tail_few.1))

  pub shaped : Shaped l
  unfolding count_in
  shaped =
      record {
        width = w;
        count = count_in l;
        words = word_bytes_in n l;
        tail = tail_in n l;
        digits = numeral_below (take d (drop 17 l)) (digits_numeral (drop 17 l) counted.0);
        words_are = words_read.0;
        words_long = words_read.1;
        tail_are = tail_read.0;
        tail_long = tail_read.1;
        is = apart;
      }

-- ---- what the code finds of the count, o: it has d digits, and there is room for u words behind it
module _ (w : Width) (l : List ℕ) (h : Right (shape_of w) l) (o : Option ℕ) (e : o ≡ length_if (numeral_of 16 (from 17 l))) where
  pub some_count : IsSome o
  some_count = rw (e, found w l h) (is_some (digits_in l) (counted w l h).0)

  module _ (d : ℕ) (p : o ≡ Some d) where
    pub count_is : d ≡ digits_in l
    count_is = (some_is d (numeral_of 16 (from 17 l)) (sym p ∙ e)).0 ∙ found w l h

    pub count_few : d ≤ 17
    count_few = omega (arith, count_is, (count_room w l h).1)

    pub count_long : (m : List ℕ) → length (take d m) ≤ 17
    count_long m = omega (arith, count_few, length-take d m)

    pub rest_room : (u : ℕ) → u ≡ used_of w → 17 + d + 7 + 8 * u + 6 ≤ length l
    rest_room u q = omega (arith, count_is, tail_room w l h)

pub run_fits : (n k : ℕ) (m : List ℕ) → k ≡ run_of Hex n m → k ≡ length (take k m)
run_fits n k m e = sym (length-take-le k m (omega (arith, (run_in Hex n m).0)))

pub run_few : (n k : ℕ) (m : List ℕ) → k ≡ run_of Hex n m → length (take k m) ≤ n
run_few n k m e = omega (arith, (run_in Hex n m).1, length-take k m)

pub ruleset state_steps = (head_room, some_count, count_few, count_long, rest_room, run_fits, run_few)
