-- What a record or a sheet shows of a sound state, its word bytes and the tail up to the fill, makes its words and its tail again.
-- Assumes nothing.
use Prim.Native.Nat.{ℕ, ◌-◌, ◌*◌, ◌^◌, ◌≤◌}
use mathlib.Core.Path.{◌≡◌, ap, sym, ◌∙◌}
use mathlib.Core.List.{List, ◌++◌}
use native.Mathlib.Omega.{arith}
use lib.Dec.{lit<}
use lib.ListN.{length, take, drop, replicate, length-append, length-drop, length-replicate, take-append-drop}
use lib.Seq.{drop_at, length-take-le}
use Rattle.words.specs.Bytes.{word_bytes, words_of, Below}
use Rattle.words.proofs.Numbers.{length_words, words_back, words_below, below_take, below_append, below_zeros}
use Rattle.compress.specs.Block.{used_of}
use Rattle.compress.specs.declared.Width.{Width}
use Rattle.compress.proofs.Kept.{Chaining, used_le}
use Rattle.ripemd.specs.Feed.{as_tail}
use Rattle.ripemd.specs.Record.{words_in}
use Rattle.ripemd.specs.declared.State.{State}
use Rattle.ripemd.proofs.Zeros.{zeros_are}
use Rattle.ripemd.proofs.Kept.{Sound}

-- words that are read from enough bytes are chaining words
pub words_chaining : (w : Width) (r : List ℕ) → Below 256 r → 4 * used_of w ≤ length r → Chaining w (words_in w r)
words_chaining w r b l =
    let u = used_le w in
    let lw = length_words (used_of w) r in
    let zs = below_zeros (2 ^ 32) (10 - used_of w) (lit< tt) in
    record {
      long = length-append (words_of (used_of w) r) (replicate (10 - used_of w) 0) ∙ omega (arith, length-replicate {A = ℕ} (10 - used_of w) 0);
      below = below_append (2 ^ 32) (words_of (used_of w) r) (replicate (10 - used_of w) 0) (words_below (used_of w) r b l) zs;
      spare = drop_at (words_of (used_of w) r) (replicate (10 - used_of w) 0) (used_of w) lw;
    }

module _ (s : State) (k : Sound s) where
  -- the words, whatever stands behind their bytes
  pub words_shown_lem : (rest : List ℕ) → words_in s.width (word_bytes (take (used_of s.width) s.words) ++ rest) ≡ s.words
  words_shown_lem rest =
      let u = used_of s.width in
      let l : length (take u s.words) ≡ u = length-take-le u s.words (omega (arith, used_le s.width, k.words.long)) in
      let b : words_of u (word_bytes (take u s.words) ++ rest) ≡ take u s.words =
      ap (λ (n : ℕ). words_of n (word_bytes (take u s.words) ++ rest)) (sym l)
      ∙ words_back (take u s.words) rest (below_take (2 ^ 32) u s.words k.words.below)
      in
      rw (b, sym k.words.spare) (take-append-drop u s.words)

  pub fill_long : length (take s.fill s.tail) ≡ s.fill
  fill_long = length-take-le s.fill s.tail (omega (arith, k.tail, k.well.fill))

  pub tail_shown_lem : as_tail (take s.fill s.tail) ≡ s.tail
  tail_shown_lem =
      let z = zeros_are (drop s.fill s.tail) k.well.tail in
      let e : 64 - length (take s.fill s.tail) ≡ length (drop s.fill s.tail) =
      omega (arith, fill_long, length-drop s.fill s.tail, k.tail)
      in
      ap (λ (n : ℕ). take s.fill s.tail ++ replicate n 0) e
      ∙ ap (λ (m : List ℕ). take s.fill s.tail ++ m) (sym z)
      ∙ take-append-drop s.fill s.tail
