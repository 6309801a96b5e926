-- A state and the parts that its sheet shows, both ways.
-- Assumes nothing.
use Prim.Native.Nat.{ℕ, ◌-◌, ◌*◌, ◌^◌, ◌<◌}
use mathlib.Core.Path.{◌≡◌, refl, ap, sym, ◌∙◌}
use mathlib.Core.List.{List, [], ◌++◌, append-nil}
use native.Mathlib.Omega.{arith}
use lib.Dec.{lit<}
use lib.ListN.{length, take, replicate, length-append, length-replicate}
use lib.Seq.{take_at, drop_at, take_all}
use Rattle.words.specs.Bytes.{word_bytes, words_of, Below}
use Rattle.words.proofs.Numbers.{length_words, words_again, word_bytes_below, below_take, below_append, below_zeros}
use Rattle.compress.specs.Block.{used_of, initial_of}
use Rattle.compress.specs.declared.Width.{Width}
use Rattle.compress.proofs.Kept.{Chaining, used_le}
use Rattle.ripemd.specs.State.{zeros}
use Rattle.ripemd.specs.Record.{words_in}
use Rattle.ripemd.specs.declared.State.{State}
use Rattle.ripemd.proofs.Zeros.{zeros_replicate}
use Rattle.ripemd.proofs.Recorded.{used_bytes}
use Rattle.ripemd.proofs.Kept.{Sound}
use Rattle.ripemd.proofs.Shown.{words_chaining, words_shown_lem, fill_long, tail_shown_lem}
use Rattle.sheet.specs.Sheet.{words_shown, tail_shown, text_of, sheet_of}
use Rattle.sheet.specs.Reading.{state_with, Plain}

-- ---- a sound state: its parts are what a sheet may show, and they make the state again
module _ (s : State) (k : Sound s) where
  pub shown_words : Below 256 (words_shown s) × (length (words_shown s) ≡ 4 * used_of s.width)
  shown_words = (word_bytes_below (take (used_of s.width) s.words), used_bytes s.words (used_of s.width) (used_le s.width) k.words.long)

  pub shown_tail : Below 256 (tail_shown s) × (length (tail_shown s) < 64)
  shown_tail = (below_take 256 s.fill s.tail k.bytes, omega (arith, fill_long s k, k.well.fill))

  words_made : words_in s.width (words_shown s) ≡ s.words
  words_made = ap (words_in s.width) (sym (append-nil (words_shown s))) ∙ words_shown_lem s k []

  pub state_again : state_with s.width s.count.0 (words_shown s) (tail_shown s) ≡ s
  unfolding state_with
  state_again = rw (words_made, tail_shown_lem s k, fill_long s k)

-- ---- parts that a sheet may show: the state that they make shows them, and it is sound
module _ (w : Width) (n : ℕ) (h t : List ℕ) (hb : Below 256 h) (hl : length h ≡ 4 * used_of w) (tl : length t < 64) where
  pub shown : sheet_of (state_with w n h t) ≡ text_of w n h t
  unfolding sheet_of state_with
  shown =
      let u = used_of w in
      let e : word_bytes (take u (words_of u h ++ replicate (10 - u) 0)) ≡ h =
      ap word_bytes (take_at (words_of u h) (replicate (10 - u) 0) u (length_words u h))
      ∙ words_again u h hb (omega arith)
      ∙ take_all (4 * u) h (omega arith)
      in
      rw (e, take_at t (replicate (64 - length t) 0) (length t) refl)

  chaining : Chaining w (words_in w h)
  chaining = words_chaining w h hb (omega arith)

  pub made_plain : Plain (state_with w n h t)
  unfolding state_with
  made_plain = (
    tl,
    ap zeros (drop_at t (replicate (64 - length t) 0) (length t) refl) ∙ zeros_replicate (64 - length t),
    ap zeros chaining.spare ∙ zeros_replicate (10 - used_of w),
  )

  pub made_sound : n < 2 ^ 55 → (n ≡ 0 → words_in w h ≡ initial_of w) → Below 256 t → Sound (state_with w n h t)
  unfolding state_with
  made_sound c b tb =
      record {
        well = record {
          fill = tl;
          count = c;
          tail = made_plain.1;
          spare = made_plain.2;
          start = b;
        };
        tail = length-append t (replicate (64 - length t) 0) ∙ omega (arith, length-replicate {A = ℕ} (64 - length t) 0);
        words = chaining;
        bytes = below_append 256 t (replicate (64 - length t) 0) tb (below_zeros 256 (64 - length t) (lit< tt));
      }
