-- Decimal digits and numbers, both ways.
-- Assumes nothing.
use Prim.Native.Nat.{ℕ, zero, suc, ◌+◌, ◌-◌, ◌*◌, ◌/◌, ◌%◌, ◌^◌, ◌≤◌, ◌<◌}
use mathlib.Core.Path.{◌≡◌, refl, ap, sym, ◌∙◌}
use mathlib.Core.Bool.{Bool, true, false, cond}
use mathlib.Core.List.{List, [], ◌∷◌, ◌++◌, append-nil}
use mathlib.Core.Logic.{◌⊎◌, inl, inr}
use native.Mathlib.Omega.{arith}
use native.Mathlib.Nat.{pow-suc, pow-le-pow_right}
use borrow.Author.Tests.{lt-ltb, le-ltb, ltb-true, ltb-false, eqb-true, ne_eqb}
use lib.Dec.{ltb, eqb, lit<, lit≤}
use lib.ListN.{length, take, length-append}
use lib.Seq.{append_snoc, length-take-le}
use Rattle.text.specs.Text.{digits_of, decimal_of}
use Rattle.shape.specs.declared.Class.TheVariants.{Leading, Digit}
use Rattle.shape.specs.Shape.{allows_of, run_of, numeral_of}
use Rattle.shape.specs.Digits.{value_of}
use Rattle.shape.proofs.Parts.{All, run_in, run_all, run_on}
use Rattle.shape.proofs.Classes.{digit_is, leading_is, is_digit, is_leading, feed_digit}

-- a digit that is not 0, then digits
abbrev pub Lead : List ℕ → Type 0
Lead [] = ⊥
Lead (x ∷ l) = (allows_of Leading x ≡ true) × All Digit l

-- a number of 1 to 17 digits, without leading zeros
abbrev pub Numeral : List ℕ → Type 0
Numeral l = (l ≡ 48 ∷ []) ⊎ (Lead l × (length l ≤ 17))

one_more : (k a x : ℕ) → (48 ≤ x) × (x ≤ 57) → 1 ≤ a → digits_of (suc k) (a * 10 + x % 16) ≡ digits_of k a ++ (x ∷ [])
unfolding digits_of
one_more k a x i h =
    let q : (a * 10 + x % 16) / 10 ≡ a = omega arith in
    let r : 48 + (a * 10 + x % 16) % 10 ≡ x = omega arith in
    rw (le-ltb (a * 10 + x % 16) 10 (omega arith), q, r)

one_digit : (k x : ℕ) → (49 ≤ x) × (x ≤ 57) → digits_of (suc k) (x - 48) ≡ x ∷ []
unfolding digits_of
one_digit k x i = rw (lt-ltb (x - 48) 10 (omega arith)) (ap (λ (y : ℕ). y ∷ []) (omega arith))

zero_is : digits_of 20 0 ≡ 48 ∷ []
unfolding digits_of
zero_is = refl

zero_again : value_of 0 (digits_of 20 0) ≡ 0
unfolding digits_of value_of
zero_again = refl

-- digits behind a number that is not 0 are its further digits
further : (k a : ℕ) (l : List ℕ) → All Digit l → 1 ≤ a → digits_of (k + length l) (value_of a l) ≡ digits_of k a ++ l
unfolding value_of
further k a [] d h = let e : k + 0 ≡ k = omega arith in rw e (sym (append-nil (digits_of k a)))
further k a (x ∷ l) (p, d) h =
    let i = digit_is x p in
    let e : k + suc (length l) ≡ suc k + length l = omega arith in
    rw e (further (suc k) (a * 10 + x % 16) l d (omega arith) ∙ ap (λ (m : List ℕ). m ++ l) (one_more k a x i h) ∙ append_snoc (digits_of k a) x l)

value_below : (j a : ℕ) (l : List ℕ) → All Digit l → a < 10 ^ j → value_of a l < 10 ^ (j + length l)
unfolding value_of
value_below j a [] d h = let e : j + 0 ≡ j = omega arith in rw e h
value_below j a (x ∷ l) (p, d) h =
    let i = digit_is x p in
    let e : j + suc (length l) ≡ suc j + length l = omega arith in
    rw e (value_below (suc j) (a * 10 + x % 16) l d (omega (arith, pow-suc 10 j)))

-- a numeral is what its number is in decimal
pub numeral_decimal : (l : List ℕ) → Numeral l → decimal_of (value_of 0 l) ≡ l
unfolding decimal_of value_of
numeral_decimal l (inl e) = rw e zero_is
numeral_decimal [] (inr (a, h)) = absurd a
numeral_decimal (x ∷ l) (inr ((p, d), h)) =
    let i = leading_is x p in
    let e : 20 ≡ suc (19 - length l) + length l = omega arith in
    let z : 0 * 10 + x % 16 ≡ x - 48 = omega arith in
    rw (e, z) (further (suc (19 - length l)) (x - 48) l d (omega arith) ∙ ap (λ (m : List ℕ). m ++ l) (one_digit (19 - length l) x i))

-- and it is below 10^17
pub numeral_below : (l : List ℕ) → Numeral l → value_of 0 l < 10 ^ 17
unfolding value_of
numeral_below l (inl e) = rw e (lit< tt)
numeral_below [] (inr (a, h)) = absurd a
numeral_below (x ∷ l) (inr ((p, d), h)) =
    let i = leading_is x p in
    let b = value_below 1 (0 * 10 + x % 16) l d (omega arith) in
    let q : 1 + length l ≤ 17 = omega arith in
    let m : 10 ^ (1 + length l) ≤ 10 ^ 17 = pow-le-pow_right (lit< tt) q in
    omega arith

-- the digits at the front of a text are a numeral
pub digits_numeral : (l : List ℕ) → (numeral_of 16 l ≡ 0 → ⊥) → Numeral (take (numeral_of 16 l) l)
unfolding numeral_of
digits_numeral [] h = absurd (h refl)
digits_numeral (x ∷ l) h = by_test (eqb x 48) (allows_of Leading x) refl refl h
  where
    by_test : (p q : Bool) → eqb x 48 ≡ p → allows_of Leading x ≡ q → (cond p 1 (cond q (suc (run_of Digit 16 l)) 0) ≡ 0 → ⊥)
        → Numeral (take (cond p 1 (cond q (suc (run_of Digit 16 l)) 0)) (x ∷ l))
    by_test true q e f h = inl (ap (λ (y : ℕ). y ∷ []) (eqb-true x 48 e))
    by_test false true e f h =
        let i = run_in Digit 16 l in
        inr ((f, run_all Digit 16 l), omega (arith, i.1, length-take-le (run_of Digit 16 l) l i.0))
    by_test false false e f h = absurd (h refl)

-- a numeral before a line feed is as long as it is found to be
pub numeral_found : (d l : List ℕ) → Numeral d → numeral_of 16 (d ++ 10 ∷ l) ≡ length d
unfolding numeral_of
numeral_found d l (inl e) = rw e
numeral_found [] l (inr (a, h)) = absurd a
numeral_found (x ∷ d) l (inr ((p, a), h)) =
    let i = leading_is x p in
    rw (ne_eqb x 48 (λ z. omega arith), p) (ap suc (run_on Digit 16 d 10 l a (omega arith) feed_digit))

-- ---- a number in decimal, read again
value_snoc : (a : ℕ) (l : List ℕ) (x : ℕ) → value_of a (l ++ (x ∷ [])) ≡ value_of a l * 10 + x % 16
unfolding value_of
value_snoc a [] x = refl
value_snoc a (y ∷ l) x = value_snoc (a * 10 + y % 16) l x

all_snoc : (l : List ℕ) (x : ℕ) → All Digit l → allows_of Digit x ≡ true → All Digit (l ++ (x ∷ []))
all_snoc [] x a h = (h, tt)
all_snoc (y ∷ l) x (p, a) h = (p, all_snoc l x a h)

lead_snoc : (l : List ℕ) (x : ℕ) → Lead l → allows_of Digit x ≡ true → Lead (l ++ (x ∷ []))
lead_snoc [] x a h = absurd a
lead_snoc (y ∷ l) x (p, a) h = (p, all_snoc l x a h)

-- a number of at most k digits, m of them enough
record Written (m n : ℕ) (l : List ℕ) : Type 0 where
  value : value_of 0 l ≡ n
  few : length l ≤ m
  lead : Lead l

written : (k m n : ℕ) → 1 ≤ n → n < 10 ^ k → n < 10 ^ m → Written m n (digits_of k n)
unfolding digits_of value_of
written zero m n h b c = absurd (omega arith)
written (suc k) zero n h b c = absurd (omega arith)
written (suc k) (suc m) n h b c = by_test (written k m (n / 10)) (ltb n 10) refl
  where
    by_test : (1 ≤ n / 10 → n / 10 < 10 ^ k → n / 10 < 10 ^ m → Written m (n / 10) (digits_of k (n / 10))) → (t : Bool) → ltb n 10 ≡ t
        → Written (suc m) n (cond t ((48 + n) ∷ []) (digits_of k (n / 10) ++ ((48 + n % 10) ∷ [])))
    by_test ih true e =
        let l = ltb-true n 10 e in
        record { value = omega arith; few = omega arith; lead = (is_leading (48 + n) (omega arith) (omega arith), tt) }
    by_test ih false e =
        let l = ltb-false n 10 e in
        let w = ih (omega arith) (omega (arith, pow-suc 10 k)) (omega (arith, pow-suc 10 m)) in
        record {
          value = value_snoc 0 (digits_of k (n / 10)) (48 + n % 10) ∙ omega (arith, w.value);
          few = simp length-append (omega (arith, w.few));
          lead = lead_snoc (digits_of k (n / 10)) (48 + n % 10) w.lead (is_digit (48 + n % 10) (omega arith) (omega arith));
        }

-- a number below 10^17 in decimal is a numeral, and that number again
pub decimal_numeral : (n : ℕ) → n < 10 ^ 17 → Numeral (decimal_of n) × (value_of 0 (decimal_of n) ≡ n)
unfolding decimal_of
decimal_numeral zero h = (inl zero_is, zero_again)
decimal_numeral (suc n) h =
    let m : 10 ^ 17 ≤ 10 ^ 20 = lit≤ tt in
    let w = written 20 17 (suc n) (omega arith) (omega arith) h in
    (inr (w.lead, w.few), w.value)

-- it has at most 17 digits
pub decimal_few : (n : ℕ) → n < 10 ^ 17 → length (decimal_of n) ≤ 17
decimal_few n h = few (decimal_numeral n h).0
  where
    few : {l : List ℕ} → Numeral l → length l ≤ 17
    few (inl e) = omega (arith, ap length e)
    few (inr (a, k)) = k
