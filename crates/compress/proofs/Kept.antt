-- What every compression keeps: there are ten words, each below 2^32, and those that the width doesn't use are zero. These are the laws of
-- the library that have a case for each width; those above cite them.
-- Assumes nothing.
use mathlib.Core.Path.{◌≡◌, refl}
use mathlib.Core.List.{List}
use Prim.Native.Nat.{ℕ, zero, suc, ◌-◌, ◌*◌, ◌^◌, ◌≤◌}
use native.Mathlib.Omega.{arith}
use borrow.Author.Rules.{rules}
use lib.ListN.{length, take, drop, replicate}
use Rattle.words.specs.Bytes.{words_of, Below}
use Rattle.compress.specs.Block.{used_of, initial_of, combine_of, compress_of, blocks_of}
use Rattle.compress.specs.declared.Width.{Width}
use Rattle.compress.specs.declared.Width.TheVariants.{W128, W160, W256, W320}

-- h has as many words as a state has, they are words, and what the width doesn't use is zero
pub record Chaining (w : Width) (h : List ℕ) : Type 0 where
  pub long : length h ≡ 10
  pub below : Below (2 ^ 32) h
  pub spare : drop (used_of w) h ≡ replicate (10 - used_of w) 0

pub used_le : (w : Width) → used_of w ≤ 10
used_le W128 = omega arith
used_le W160 = omega arith
used_le W256 = omega arith
used_le W320 = omega arith

pub initial_chaining : (w : Width) → Chaining w (initial_of w)
initial_chaining W128 = record { long = refl; below = search rules; spare = refl }
initial_chaining W160 = record { long = refl; below = search rules; spare = refl }
initial_chaining W256 = record { long = refl; below = search rules; spare = refl }
initial_chaining W320 = record { long = refl; below = search rules; spare = refl }

pub compress_chaining : (w : Width) (h x : List ℕ) → Chaining w (compress_of w h x)
unfolding compress_of combine_of
compress_chaining W128 h x = record { long = refl; below = search rules; spare = refl }
compress_chaining W160 h x = record { long = refl; below = search rules; spare = refl }
compress_chaining W256 h x = record { long = refl; below = search rules; spare = refl }
compress_chaining W320 h x = record { long = refl; below = search rules; spare = refl }

pub blocks_chaining : (w : Width) (h s : List ℕ) (n : ℕ) → Chaining w h → Chaining w (blocks_of w h s n)
unfolding blocks_of
blocks_chaining w h s zero k = k
blocks_chaining w h s (suc n) k = compress_chaining w (blocks_of w h s n) (words_of 16 (take 64 (drop (64 * n) s)))
