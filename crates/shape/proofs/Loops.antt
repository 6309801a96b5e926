-- A part of a text counted as a chain counts it, and one digit more, for the loops that read digits.
-- Assumes nothing.
use Prim.Native.Nat.{ℕ, zero, suc, ◌+◌, ◌*◌, ◌/◌, ◌%◌, ◌^◌, ◌≤◌, ◌<◌}
use mathlib.Core.Path.{◌≡◌, refl, ap, sym, ◌∙◌}
use mathlib.Core.Bool.{Bool, true, false, cond}
use mathlib.Core.List.{List, [], ◌∷◌, ◌++◌, append-nil}
use native.Mathlib.Omega.{arith}
use native.Mathlib.Nat.{pow-suc, pow-le-pow_right}
use native.Mathlib.Numerals.{add-one}
use lib.Dec.{eqb, lit<}
use lib.ListN.{length, get_or, take, drop, set, length-set, drop_of_length-le, take-append-drop}
use lib.Seq.{drop-cons, drop-drop, append_snoc, take-suc-set}
use Rattle.std.specs.List.{prefix_len, zip}
use Rattle.std.proofs.lemmas.List.{drop-set-lt}
use Rattle.shape.specs.declared.Class.{Class}
use Rattle.shape.specs.Shape.{allows_of, along_of, run_of}
use Rattle.shape.specs.Digits.{value_of, hex_value, unhex_of}

-- ---- along a given text
pub along_zip : (t l : List ℕ) → prefix_len (λ p. eqb p.0 p.1) (zip l t) ≡ along_of t l
unfolding along_of
along_zip [] [] = refl
along_zip [] (x ∷ l) = refl
along_zip (b ∷ t) [] = refl
along_zip (b ∷ t) (x ∷ l) = by_test (eqb x b) (along_zip t l)
  where
    by_test : (q : Bool) → prefix_len (λ p. eqb p.0 p.1) (zip l t) ≡ along_of t l
        → cond q (1 + prefix_len (λ p. eqb p.0 p.1) (zip l t)) 0 ≡ cond q (suc (along_of t l)) 0
    by_test true h = omega arith
    by_test false h = refl

-- ---- along a class
pub run_prefix : (c : Class) (n : ℕ) (l : List ℕ) → prefix_len (allows_of c) (take n l) ≡ run_of c n l
unfolding run_of
run_prefix c zero l = refl
run_prefix c (suc n) [] = refl
run_prefix c (suc n) (x ∷ l) = by_test (allows_of c x) (run_prefix c n l)
  where
    by_test : (q : Bool) → prefix_len (allows_of c) (take n l) ≡ run_of c n l
        → cond q (1 + prefix_len (allows_of c) (take n l)) 0 ≡ cond q (suc (run_of c n l)) 0
    by_test true h = omega arith
    by_test false h = refl

-- ---- decimal digits
pub value_more : (l : List ℕ) (j x : ℕ) → j < length l → value_of (x * 10 + get_or l j 0 % 16) (drop (j + 1) l) ≡ value_of x (drop j l)
unfolding value_of
value_more l j x h = rw (drop-cons l j 0 h, add-one j)

pub value_all : (l : List ℕ) (x : ℕ) → value_of x (drop (length l) l) ≡ x
unfolding value_of
value_all l x = rw (drop_of_length-le l {i = length l} (omega arith))

pub value_room : (x b j : ℕ) → b < 16 → x + 2 ≤ 2 * 10 ^ j → x * 10 + b + 2 ≤ 2 * 10 ^ (j + 1)
value_room x b j h k = rw (add-one j, pow-suc 10 j) (omega arith)

pub value_fits : (x j : ℕ) → j ≤ 17 → x + 2 ≤ 2 * 10 ^ j → x < 2 * 10 ^ 17
value_fits x j h k = let m : 10 ^ j ≤ 10 ^ 17 = pow-le-pow_right (lit< tt) h in omega arith

-- ---- pairs of hex digits
-- of the digits l, j pairs are read into out, which was o, and rest are to come
pub record Unhexed (l o out rest : List ℕ) (j : ℕ) : Type 0 where
  pub bytes : unhex_of l ≡ take j out ++ unhex_of rest
  pub kept : drop j out ≡ drop j o
  pub far : 2 * j + length rest ≡ length l
  pub long : length out ≡ length o

pub unhex_none : (l o : List ℕ) → Unhexed l o o l 0
unhex_none l o = record { bytes = refl; kept = refl; far = omega arith; long = refl }

pub unhex_more : (l o out rest p : List ℕ) (j v : ℕ) → Unhexed l o out (p ++ rest) j → length p ≡ 2 → j < length out
    → v ≡ hex_value (get_or p 0 0) * 16 + hex_value (get_or p 1 0) → Unhexed l o (set out j v) rest (j + 1)
unfolding unhex_of
unhex_more l o out rest [] j v u e i k = absurd (omega arith)
unhex_more l o out rest (x ∷ []) j v u e i k = absurd (omega arith)
unhex_more l o out rest (x ∷ y ∷ z ∷ p) j v u e i k = absurd (omega arith)
unhex_more l o out rest (x ∷ y ∷ []) j v u e i k = record {
  bytes = rw (add-one j, take-suc-set out j v i, append_snoc, k) u.bytes;
  kept = drop-set-lt (j + 1) out j v (omega arith) ∙ sym (drop-drop 1 j out) ∙ ap (drop 1) u.kept ∙ drop-drop 1 j o;
  far = omega (arith, u.far);
  long = length-set out j v ∙ u.long;
}

pub unhex_end : (l o out rest : List ℕ) (j : ℕ) → Unhexed l o out rest j → length rest < 2 → out ≡ unhex_of l ++ drop (length l / 2) o
unfolding unhex_of
unhex_end l o out [] j u h =
    let e : j ≡ length l / 2 = omega (arith, u.far) in
    rw (u.bytes, append-nil (take j out), ← e, ← u.kept) (sym (take-append-drop j out))
unhex_end l o out (x ∷ []) j u h =
    let e : j ≡ length l / 2 = omega (arith, u.far) in
    rw (u.bytes, append-nil (take j out), ← e, ← u.kept) (sym (take-append-drop j out))
unhex_end l o out (x ∷ y ∷ rest) j u h = absurd (omega arith)
