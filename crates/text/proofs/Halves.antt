-- Laws of bytes in hex: how long they are, and one more byte of them.
-- Assumes nothing.
use Prim.Native.Nat.{ℕ, zero, suc, ◌+◌, ◌*◌, ◌/◌, ◌%◌, ◌<◌}
use mathlib.Core.Path.{◌≡◌, refl}
use mathlib.Core.List.{List, [], ◌∷◌, ◌++◌}
use native.Mathlib.Omega.{arith}
use lib.ListN.{length, take, drop, set, get_or}
use lib.Seq.{drop-cons}
use Rattle.std.proofs.Common.{◌-◌, ap, sym, ◌∙◌, append_assoc, length-take-le}
use Rattle.std.proofs.lemmas.List.{set-append_right}
use Rattle.text.specs.Text.{hex_digit, hex_of}

pub length_hex : (bs : List ℕ) → length (hex_of bs) ≡ 2 * length bs
length_hex [] = refl
length_hex (b ∷ bs) = let e = length_hex bs in omega arith

pub hex_of-take : (bs : List ℕ) (i : ℕ) → i < length bs
    → hex_of (take (i + 1) bs) ≡ hex_of (take i bs) ++ hex_digit (get_or bs i 0 / 16) ∷ hex_digit (get_or bs i 0 % 16) ∷ []
hex_of-take [] i h = absurd (omega arith)
hex_of-take (b ∷ bs) zero h = refl
hex_of-take (b ∷ bs) (suc i) h =
    let e : suc i + 1 ≡ suc (i + 1) = omega arith in
    rw (e, hex_of-take bs i (omega arith))

-- the digits of one more byte, into room behind those of the bytes before it
module _ (bs old : List ℕ) (i : ℕ) (h : i < length bs) (l : length old ≡ 2 * length bs) where
  behind : drop (2 * i) old ≡ get_or old (2 * i) 0 ∷ get_or old (2 * i + 1) 0 ∷ drop (2 * (i + 1)) old
  behind =
      let e : suc (2 * i) ≡ 2 * i + 1 = omega arith in
      let f : suc (2 * i + 1) ≡ 2 * (i + 1) = omega arith in
      drop-cons old (2 * i) 0 (omega arith)
      ∙ rw e (ap (λ (r : List ℕ). get_or old (2 * i) 0 ∷ r) (drop-cons old (2 * i + 1) 0 (omega arith) ∙ rw f refl))

  pub hex_more : (high low : ℕ) → high ≡ hex_digit (get_or bs i 0 / 16) → low ≡ hex_digit (get_or bs i 0 % 16)
      → set (set (hex_of (take i bs) ++ drop (2 * i) old) (2 * i) high) (2 * i + 1) low ≡ hex_of (take (i + 1) bs) ++ drop (2 * (i + 1)) old
  hex_more high low eh el =
      let x = hex_of (take i bs) in
      let n : length x ≡ 2 * i = omega (arith, length_hex (take i bs), length-take-le i bs (omega arith)) in
      let r = drop (2 * (i + 1)) old in
      let a = get_or old (2 * i) 0 in
      let b = get_or old (2 * i + 1) 0 in
      let none : 2 * i - 2 * i ≡ 0 = omega arith in
      let one : 2 * i + 1 - 2 * i ≡ 1 = omega arith in
      let digits : hex_digit (get_or bs i 0 / 16) ∷ hex_digit (get_or bs i 0 % 16) ∷ [] ≡ high ∷ low ∷ [] = rw (eh, el) refl in
      let first : set (x ++ a ∷ b ∷ r) (2 * i) high ≡ x ++ high ∷ b ∷ r =
      set-append_right x (a ∷ b ∷ r) (2 * i) (2 * i) high n (omega arith) ∙ rw none refl
      in
      let second : set (x ++ high ∷ b ∷ r) (2 * i + 1) low ≡ x ++ high ∷ low ∷ r =
      set-append_right x (high ∷ b ∷ r) (2 * i) (2 * i + 1) low n (omega arith) ∙ rw one refl
      in
      let more : hex_of (take (i + 1) bs) ≡ x ++ high ∷ low ∷ [] = hex_of-take bs i h ∙ ap (λ (d : List ℕ). x ++ d) digits in
      rw behind (rw first (second ∙ sym (append_assoc x (high ∷ low ∷ []) r) ∙ ap (λ (y : List ℕ). y ++ r) (sym more)))
