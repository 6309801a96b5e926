-- Hex digits and bytes, both ways.
-- Assumes nothing.
use Prim.Native.Nat.{ℕ, zero, suc, ◌+◌, ◌-◌, ◌*◌, ◌/◌, ◌%◌, ◌<◌}
use mathlib.Core.Path.{◌≡◌, refl, ap}
use mathlib.Core.Bool.{Bool, true, false, cond, ◌||◌}
use mathlib.Core.List.{List, [], ◌∷◌}
use mathlib.Core.Logic.{⊎_elim}
use native.Mathlib.Omega.{arith}
use borrow.Author.Tests.{lt-ltb, le-ltb, ltb-true, ltb-false, le-leb, lt-leb}
use lib.Dec.{ltb}
use lib.ListN.{length}
use Rattle.words.specs.Bytes.{Below}
use Rattle.text.specs.Text.{hex_digit, hex_of}
use Rattle.shape.specs.declared.Class.TheVariants.{Hex}
use Rattle.shape.specs.Shape.{within, allows_of}
use Rattle.shape.specs.Digits.{hex_value, unhex_of}
use Rattle.shape.proofs.Parts.{All}
use Rattle.shape.proofs.Classes.{within_both, either_one}

pub value_small : (x : ℕ) → hex_value x < 16
unfolding hex_value
value_small x = by_test (ltb x 97)
  where
    by_test : (b : Bool) → cond b (x % 16) ((x % 16 + 9) % 16) < 16
    by_test true = omega arith
    by_test false = omega arith

digit_again : (x : ℕ) → allows_of Hex x ≡ true → hex_digit (hex_value x) ≡ x
unfolding allows_of hex_value hex_digit
digit_again x h =
    ⊎_elim
    (λ p. let i = within_both 48 57 x p in
    let e : x % 16 ≡ x - 48 = omega arith in
    rw (lt-ltb x 97 (omega arith), e, lt-ltb (x - 48) 10 (omega arith)) (omega arith))
    (λ p. let i = within_both 97 102 x p in
    let e : (x % 16 + 9) % 16 ≡ x - 87 = omega arith in
    rw (le-ltb x 97 (omega arith), e, le-ltb (x - 87) 10 (omega arith)) (omega arith))
    (either_one (within 48 57 x) (within 97 102 x) h)

module _ (d : ℕ) (h : d < 16) where
  value_again : hex_value (hex_digit d) ≡ d
  unfolding hex_value hex_digit
  value_again = by_test (ltb d 10) refl
    where
      by_test : (b : Bool) → ltb d 10 ≡ b
          → cond (ltb (cond b (48 + d) (97 + (d - 10))) 97) (cond b (48 + d) (97 + (d - 10)) % 16) ((cond b (48 + d) (97 + (d - 10)) % 16 + 9) % 16) ≡ d
      by_test true e = let l = ltb-true d 10 e in rw (lt-ltb (48 + d) 97 (omega arith)) (omega arith)
      by_test false e = let l = ltb-false d 10 e in rw (le-ltb (97 + (d - 10)) 97 (omega arith)) (omega arith)

  digit_hex : allows_of Hex (hex_digit d) ≡ true
  unfolding allows_of hex_digit
  digit_hex = by_test (ltb d 10) refl
    where
      by_test : (b : Bool) → ltb d 10 ≡ b
          → (within 48 57 (cond b (48 + d) (97 + (d - 10))) || within 97 102 (cond b (48 + d) (97 + (d - 10)))) ≡ true
      by_test true e = let l = ltb-true d 10 e in rw (le-leb 48 (48 + d) (omega arith), le-leb (48 + d) 57 (omega arith))
      by_test false e =
          let l = ltb-false d 10 e in
          rw (le-leb 48 (97 + (d - 10)) (omega arith), lt-leb (97 + (d - 10)) 57 (omega arith), le-leb 97 (97 + (d - 10)) (omega arith), le-leb (97 + (d - 10)) 102 (omega arith))

pub hex_all : (h : List ℕ) → Below 256 h → All Hex (hex_of h)
hex_all [] b = tt
hex_all (x ∷ h) (l, b) = (digit_hex (x / 16) (omega arith), (digit_hex (x % 16) (omega arith), hex_all h b))

-- bytes in hex, read again
pub unhex_hex : (h : List ℕ) → Below 256 h → unhex_of (hex_of h) ≡ h
unfolding unhex_of
unhex_hex [] b = refl
unhex_hex (x ∷ h) (l, b) =
    rw (value_again (x / 16) (omega arith), value_again (x % 16) (omega arith), unhex_hex h b)
    (ap (λ (y : ℕ). y ∷ h) (omega arith))

-- pairs of hex digits, written again
pub hex_unhex : (n : ℕ) (l : List ℕ) → length l ≡ 2 * n → All Hex l → hex_of (unhex_of l) ≡ l
unfolding unhex_of
hex_unhex n [] e a = refl
hex_unhex n (x ∷ []) e a = absurd (omega arith)
hex_unhex zero (x ∷ y ∷ l) e a = absurd (omega arith)
hex_unhex (suc n) (x ∷ y ∷ l) e (p, (q, a)) =
    let v = value_small x in
    let w = value_small y in
    let d : (hex_value x * 16 + hex_value y) / 16 ≡ hex_value x = omega arith in
    let m : (hex_value x * 16 + hex_value y) % 16 ≡ hex_value y = omega arith in
    rw (d, m, digit_again x p, digit_again y q, hex_unhex n l (omega arith) a)

pub unhex_below : (n : ℕ) (l : List ℕ) → length l ≡ 2 * n → Below 256 (unhex_of l)
unfolding unhex_of
unhex_below n [] e = tt
unhex_below n (x ∷ []) e = tt
unhex_below zero (x ∷ y ∷ l) e = absurd (omega arith)
unhex_below (suc n) (x ∷ y ∷ l) e = (omega (arith, value_small x, value_small y), unhex_below n l (omega arith))

pub unhex_half : (l : List ℕ) → length (unhex_of l) ≡ length l / 2
unfolding unhex_of
unhex_half [] = refl
unhex_half (x ∷ []) = refl
unhex_half (x ∷ y ∷ l) = omega (arith, unhex_half l)

pub unhex_long : (n : ℕ) (l : List ℕ) → length l ≡ 2 * n → length (unhex_of l) ≡ n
unhex_long n l e = omega (arith, unhex_half l)
