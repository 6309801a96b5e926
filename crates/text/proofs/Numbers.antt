-- Laws of a number's digits: at the end of a buffer, one more before the others and the first of them; and how many they are.
-- Assumes nothing.
use Prim.Native.Nat.{ℕ, zero, suc, ◌+◌, ◌/◌, ◌%◌, ◌^◌, ◌≤◌, ◌<◌}
use mathlib.Core.Path.{◌≡◌, ◌∙◌}
use mathlib.Core.List.{List, ◌∷◌, ◌++◌}
use native.Mathlib.Nat.{pow-suc}
use native.Mathlib.Omega.{arith}
use lib.ListN.{length, drop, set, length-set, length-append}
use lib.Seq.{append_snoc, drop-cons, drop-set-lt, get_or-set_same}
use Rattle.std.proofs.lemmas.Bool.Decides.{nat_tests}
use borrow.Author.Tests.{lt-ltb, le-ltb}
use Rattle.text.specs.Text.{digits_of, decimal_of}

drop_set : (l : List ℕ) (i b : ℕ) → i < length l → drop i (set l i b) ≡ b ∷ drop (suc i) l
drop_set l i b h =
    let hs : i < length (set l i b) = simp length-set h in
    drop-cons (set l i b) i 0 hs ∙ rw (get_or-set_same l i b 0 h, drop-set-lt (suc i) l i b (omega arith))

-- a number of two digits or more has a place before its last
pub not_first : (i y : ℕ) → 10 ≤ y → y < 10 ^ suc i → 0 < i
not_first zero y h b = absurd (omega arith)
not_first (suc i) y h b = omega arith

pub tenth : (i y : ℕ) → y < 10 ^ suc i → y / 10 < 10 ^ i
tenth i y h = omega (arith, pow-suc 10 i)

module _ (l : List ℕ) (i y : ℕ) (hl : i < length l) where
  pub digit_more : (k : ℕ) → k ≡ i → 10 ≤ y → digits_of k (y / 10) ++ drop k (set l i (48 + y % 10)) ≡ digits_of (suc i) y ++ drop (suc i) l
  unfolding digits_of
  digit_more k e h = rw (e, drop_set l i (48 + y % 10) hl) (simp (le-ltb y 10 h, append_snoc))

  pub digit_first : y < 10 → drop i (set l i (48 + y)) ≡ digits_of (suc i) y ++ drop (suc i) l
  unfolding digits_of
  digit_first h = drop_set l i (48 + y) hl ∙ simp (lt-ltb y 10 h)

-- ---- how long a number is
digits_long : (n x : ℕ) → length (digits_of n x) ≤ n
unfolding digits_of
digits_long zero x = omega arith
digits_long (suc n) x = grind (arith, nat_tests, length-append, digits_long n (x / 10))

pub decimal_long : (x : ℕ) → length (decimal_of x) ≤ 20
unfolding decimal_of
decimal_long x = digits_long 20 x
