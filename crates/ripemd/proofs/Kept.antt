-- What every state that is reached keeps: it is well formed, its tail is 64 bytes and its words are chaining words of its width.
-- Assumes nothing.
use Prim.Native.Nat.{ℕ, ◌+◌, ◌-◌, ◌*◌, ◌%◌, ◌^◌, ◌<◌}
use mathlib.Core.Path.{◌≡◌, refl, ap, ◌∙◌}
use mathlib.Core.List.{List}
use mathlib.Core.Bool.{true}
use native.Mathlib.Omega.{arith}
use lib.Dec.{lit<}
use lib.ListN.{length, take, drop, replicate, length-append, length-drop, length-replicate}
use lib.Seq.{drop_at}
use Rattle.words.specs.Bytes.{Below}
use Rattle.words.proofs.Numbers.{below_take, below_drop, below_append, below_zeros}
use Rattle.compress.specs.Block.{used_of, initial_of, blocks_of}
use Rattle.compress.specs.declared.Width.{Width}
use Rattle.compress.proofs.Chain.{blocks_none}
use Rattle.compress.proofs.Kept.{Chaining, initial_chaining, blocks_chaining}
use Rattle.ripemd.specs.State.{zeros, taken_of, WellFormed, fault_of, between, fresh_of}
use Rattle.ripemd.specs.Feed.{pending, whole_blocks, fed_state}
use Rattle.ripemd.specs.declared.State.{State}
use Rattle.ripemd.proofs.Well.{no_fault}
use Rattle.ripemd.proofs.Zeros.{zeros_replicate}
use Rattle.ripemd.proofs.Pending.{length_pending}

pub record Sound (s : State) : Type 0 where
  pub well : WellFormed s
  pub tail : length s.tail ≡ 64
  pub words : Chaining s.width s.words
  pub bytes : Below 256 s.tail

pub sound_fine : {s : State} → Sound s → fault_of s ≡ 0
sound_fine {s} k = no_fault s k.well

spare_zero : (w : Width) (h : List ℕ) → Chaining w h → zeros (drop (used_of w) h) ≡ true
spare_zero w h k = ap zeros k.spare ∙ zeros_replicate (10 - used_of w)

-- a state between two blocks
pub between_sound : (w : Width) (h : List ℕ) (c : ℕ) → c < 2 ^ 55 → (c ≡ 0 → h ≡ initial_of w) → Chaining w h → Sound (between w h c)
between_sound w h c l b k =
    record {
      well = record { fill = lit< tt; count = l; tail = refl; spare = spare_zero w h k; start = b };
      tail = refl;
      words = k;
      bytes = below_zeros 256 64 (lit< tt);
    }

pub fresh_sound : (w : Width) → Sound (fresh_of w)
fresh_sound w = between_sound w (initial_of w) 0 (lit< tt) (λ z. refl) (initial_chaining w)

pub fed_width : (s : State) (p : List ℕ) → (fed_state s p).width ≡ s.width
unfolding fed_state
fed_width s p = refl

module _ (s : State) (p : List ℕ) (k : Sound s) where
  abbrev rest : List ℕ
  rest = drop (64 * whole_blocks s p) (pending s p)

  rest_long : length rest ≡ (s.fill + length p) % 64
  rest_long =
      let lp = length_pending s.tail p s.fill (omega (arith, k.tail, k.well.fill)) in
      simp length-drop (omega (arith, lp))

  fed_words : Chaining s.width (fed_state s p).words
  unfolding fed_state
  fed_words = blocks_chaining s.width s.words (pending s p) (whole_blocks s p) k.words

  -- an accepted piece leaves the state well formed: while no block is counted, none was compressed
  pub fed_well : taken_of s + length p < 2 ^ 61 → WellFormed (fed_state s p)
  unfolding fed_state
  fed_well h =
      record {
        fill = omega arith;
        count = omega (arith, k.well.fill);
        tail = ap zeros (drop_at rest (replicate (64 - length rest) 0) ((s.fill + length p) % 64) rest_long) ∙ zeros_replicate (64 - length rest);
        spare = spare_zero s.width (blocks_of s.width s.words (pending s p) (whole_blocks s p)) fed_words;
        start = λ z.
            let none : whole_blocks s p ≡ 0 = omega arith in
            ap (blocks_of s.width s.words (pending s p)) none ∙ blocks_none s.width s.words (pending s p) ∙ k.well.start (omega arith);
      }

  -- one of bytes keeps all of it
  pub fed_sound : taken_of s + length p < 2 ^ 61 → Below 256 p → Sound (fed_state s p)
  unfolding fed_state
  fed_sound h b =
      let held = below_take 256 s.fill s.tail k.bytes in
      record {
        well = fed_well h;
        tail = simp (length-append, length-replicate) (omega (arith, rest_long));
        words = fed_words;
        bytes =
            below_append 256 rest (replicate (64 - length rest) 0)
            (below_drop 256 (64 * whole_blocks s p) (pending s p) (below_append 256 (take s.fill s.tail) p held b))
            (below_zeros 256 (64 - length rest) (lit< tt));
      }

  -- and counts its bytes
  pub fed_taken : taken_of (fed_state s p) ≡ taken_of s + length p
  unfolding fed_state
  fed_taken = omega arith
