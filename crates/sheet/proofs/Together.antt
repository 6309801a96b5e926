-- The sheet of a width, a count, word bytes and tail bytes has the shape, and reading finds them in it.
-- Assumes nothing.
use Prim.Native.Nat.{ℕ, ◌+◌, ◌*◌, ◌^◌, ◌<◌}
use mathlib.Core.Path.{◌≡◌, ap, sym, ◌∙◌}
use mathlib.Core.List.{List, [], ◌∷◌, ◌++◌}
use mathlib.Core.Logic.{inl, inr}
use native.Mathlib.Omega.{arith}
use lib.ListN.{length, take, drop, length-append}
use lib.Seq.{drop-drop, take_at, drop_at}
use Rattle.words.specs.Bytes.{Below}
use Rattle.compress.specs.Block.{used_of}
use Rattle.compress.specs.declared.Width.{Width}
use Rattle.text.specs.Text.{decimal_of, hex_of}
use Rattle.text.proofs.Halves.{length_hex}
use Rattle.shape.specs.declared.Class.{Class}
use Rattle.shape.specs.declared.Class.TheVariants.{Digit, Hex}
use Rattle.shape.specs.Shape.{Shape, ended, allows_of, reach, text, many, pairs, number, run_of, numeral_of}
use Rattle.text.specs.Text.{ascii}
use Rattle.sheet.specs.Reading.{head_of}
use Rattle.sheet.specs.Sheet.{text_of}
use Rattle.shape.specs.Digits.{value_of, unhex_of}
use Rattle.sheet.specs.Reading.{tail_shape, words_shape, shape_of, digits_in, count_in, words_at, word_bytes_in, tail_at, tail_in}
use Rattle.shape.proofs.Reach.{Right}
use Rattle.shape.proofs.Parts.{All, Stops, text_on, many_on, run_on, number_some, pairs_even}
use Rattle.sheet.proofs.Followed.{after_tail, after_count}
use Rattle.sheet.proofs.Lines.{head_long, from_tail, from_words, from_count, in_parts}
use Rattle.shape.proofs.Classes.{feed_hex}
use Rattle.shape.proofs.Hex.{hex_all, unhex_hex}
use Rattle.shape.proofs.Decimal.{Numeral, numeral_found, decimal_numeral}

-- ---- each part in front of a text that has the shape of the rest
text_right : (t : List ℕ) (s : Shape) (l : List ℕ) → Right s l → Right (text t s) (t ++ l)
text_right t s l h = omega (arith, text_on t s l, length-append t l)

many_right : (c : Class) (m : ℕ) (h : List ℕ) (s : Shape) (l : List ℕ) → All c h → length h ≡ m → Right s l → Right (many c m s) (h ++ l)
many_right c m h s l a e r = rw (sym e) (omega (arith, many_on c s h l a, length-append h l))

some_digits : (d : List ℕ) → Numeral d → length d ≡ 0 → ⊥
some_digits d (inl e) z = omega (arith, ap length e)
some_digits [] (inr (a, h)) z = a
some_digits (x ∷ d) (inr (a, h)) z = omega arith

number_right : (d : List ℕ) (s : Shape) (l : List ℕ) → Stops Digit s → Numeral d → Right s (10 ∷ l) → Right (number 16 s) (d ++ 10 ∷ l)
number_right d s l k a r =
    let f = numeral_found d l a in
    let e = number_some s k 16 (d ++ 10 ∷ l) (λ z. some_digits d a (sym f ∙ z)) in
    let g : drop (numeral_of 16 (d ++ 10 ∷ l)) (d ++ 10 ∷ l) ≡ 10 ∷ l = drop_at d (10 ∷ l) (numeral_of 16 (d ++ 10 ∷ l)) (sym f) in
    omega (arith, ap (reach s) g, length-append d (10 ∷ l))

tail_found : (t l : List ℕ) → Below 256 t → length t < 64 → run_of Hex 126 (hex_of t ++ 10 ∷ l) ≡ length (hex_of t)
tail_found t l b h = run_on Hex 126 (hex_of t) 10 l (hex_all t b) (omega (arith, length_hex t)) feed_hex

pairs_right : (t : List ℕ) (s : Shape) (l : List ℕ) → Stops Hex s → Below 256 t → length t < 64 → Right s (10 ∷ l) → Right (pairs 63 s) (hex_of t ++ 10 ∷ l)
pairs_right t s l k b h r =
    let f = tail_found t l b h in
    let e = pairs_even s k 63 (hex_of t ++ 10 ∷ l) (omega (arith, length_hex t)) in
    let g : drop (run_of Hex 126 (hex_of t ++ 10 ∷ l)) (hex_of t ++ 10 ∷ l) ≡ 10 ∷ l =
    drop_at (hex_of t) (10 ∷ l) (run_of Hex 126 (hex_of t ++ 10 ∷ l)) (sym f)
    in
    omega (arith, ap (reach s) g, length-append (hex_of t) (10 ∷ l))

-- ---- the whole
module _ (w : Width) (n : ℕ) (h t : List ℕ) (hn : n < 10 ^ 17) (hb : Below 256 h) (hl : length h ≡ 4 * used_of w) (tb : Below 256 t) (tl : length t < 64) where
  end_right : Right (text (ascii "\n") ended) (ascii "\n")
  unfolding reach text allows_of
  end_right = omega arith

  words_wide : length (hex_of h) ≡ 8 * used_of w
  words_wide = omega (arith, length_hex h)

  pub text_shape : Right (shape_of w) (text_of w n h t)
  text_shape =
      let a = pairs_right t (text (ascii "\n") ended) [] after_tail tb tl end_right in
      let b = text_right (ascii "\ntail=") (pairs 63 (text (ascii "\n") ended)) (from_tail t) a in
      let c = many_right Hex (8 * used_of w) (hex_of h) tail_shape (ascii "\ntail=" ++ from_tail t) (hex_all h hb) words_wide b in
      let d = text_right (ascii "\nwords=") (many Hex (8 * used_of w) tail_shape) (from_words h t) c in
      let e = number_right (decimal_of n) (words_shape (8 * used_of w)) (ascii "words=" ++ from_words h t) (after_count (8 * used_of w)) (decimal_numeral n hn).0 d in
      rw (in_parts w n h t) (text_right (head_of w) (number 16 (words_shape (8 * used_of w))) (from_count n h t) e)

  -- where each part is looked for
  at_count : drop 17 (text_of w n h t) ≡ from_count n h t
  at_count = ap (drop 17) (in_parts w n h t) ∙ drop_at (head_of w) (from_count n h t) 17 (head_long w)

  digits_found : digits_in (text_of w n h t) ≡ length (decimal_of n)
  digits_found = ap (numeral_of 16) at_count ∙ numeral_found (decimal_of n) (ascii "words=" ++ from_words h t) (decimal_numeral n hn).0

  pub count_found : count_in (text_of w n h t) ≡ n
  unfolding count_in
  count_found =
      ap (λ (l : List ℕ). value_of 0 (take (digits_in (text_of w n h t)) l)) at_count
      ∙ ap (value_of 0) (take_at (decimal_of n) (ascii "\nwords=" ++ from_words h t) (digits_in (text_of w n h t)) (sym digits_found))
      ∙ (decimal_numeral n hn).1

  at_words : drop (words_at (text_of w n h t)) (text_of w n h t) ≡ from_words h t
  at_words =
      let d = digits_in (text_of w n h t) in
      sym (drop-drop 7 (17 + d) (text_of w n h t))
      ∙ ap (drop 7) (sym (drop-drop d 17 (text_of w n h t)) ∙ ap (drop d) at_count ∙ drop_at (decimal_of n) (ascii "\nwords=" ++ from_words h t) d (sym digits_found))

  words_twice : length (hex_of h) ≡ 2 * (4 * used_of w)
  words_twice = omega (arith, length_hex h)

  pub words_found : word_bytes_in (4 * used_of w) (text_of w n h t) ≡ h
  unfolding word_bytes_in
  words_found =
      ap (λ (l : List ℕ). unhex_of (take (2 * (4 * used_of w)) l)) at_words
      ∙ ap unhex_of (take_at (hex_of h) (ascii "\ntail=" ++ from_tail t) (2 * (4 * used_of w)) words_twice)
      ∙ unhex_hex h hb

  at_tail : drop (tail_at (4 * used_of w) (text_of w n h t)) (text_of w n h t) ≡ from_tail t
  at_tail =
      let p = words_at (text_of w n h t) in
      let m = 2 * (4 * used_of w) in
      sym (drop-drop 6 (p + m) (text_of w n h t))
      ∙ ap (drop 6) (sym (drop-drop m p (text_of w n h t)) ∙ ap (drop m) at_words ∙ drop_at (hex_of h) (ascii "\ntail=" ++ from_tail t) m words_twice)

  pub tail_is : tail_in (4 * used_of w) (text_of w n h t) ≡ t
  unfolding tail_in
  tail_is =
      ap (λ (l : List ℕ). unhex_of (take (run_of Hex 126 l) l)) at_tail
      ∙ ap unhex_of (take_at (hex_of t) (ascii "\n") (run_of Hex 126 (from_tail t)) (sym (tail_found t [] tb tl)))
      ∙ unhex_hex t tb
