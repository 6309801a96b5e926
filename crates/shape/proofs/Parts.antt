-- How far a text goes along each part of a shape, by how long the part is in the text; and a text of the shape, taken apart and put together.
-- Assumes nothing.
use Prim.Native.Nat.{ℕ, zero, suc, ◌+◌, ◌%◌, ◌≤◌, ◌<◌, max}
use mathlib.Core.Path.{◌≡◌, refl, ap, ◌∙◌}
use mathlib.Core.Bool.{Bool, true, false, cond}
use mathlib.Core.List.{List, [], ◌∷◌, ◌++◌}
use native.Mathlib.Omega.{arith}
use borrow.Author.Tests.{eq-eqb, eqb-true, eqb-false}
use lib.Dec.{eqb}
use lib.ListN.{length, take, drop, length-drop}
use Rattle.shape.specs.declared.Class.{Class}
use Rattle.shape.specs.declared.Class.TheVariants.{Leading, Digit, Hex}
use Rattle.shape.specs.Shape.{Shape, allows_of, reach, text, many, up_to, pairs, number, along_of, run_of, numeral_of}
use Rattle.shape.proofs.Reach.{Right}

-- ---- a given text
pub along_in : (t l : List ℕ) → along_of t l ≤ length l
unfolding along_of
along_in [] l = omega arith
along_in (b ∷ t) [] = omega arith
along_in (b ∷ t) (x ∷ l) = by_test (eqb x b) (along_in t l)
  where
    by_test : (q : Bool) → along_of t l ≤ length l → cond q (suc (along_of t l)) 0 ≤ suc (length l)
    by_test true h = omega arith
    by_test false h = omega arith

pub text_short : (t : List ℕ) (s : Shape) (l : List ℕ) → along_of t l < length t → reach (text t s) l ≡ along_of t l
unfolding reach text along_of allows_of
text_short [] s l h = absurd (omega arith)
text_short (b ∷ t) s [] h = refl
text_short (b ∷ t) s (x ∷ l) h = by_test (text_short t s l) (eqb x b) h
  where
    by_test : (along_of t l < length t → reach (text t s) l ≡ along_of t l) → (q : Bool) → cond q (suc (along_of t l)) 0 < suc (length t)
        → cond q (suc (reach (text t s) l)) 0 ≡ cond q (suc (along_of t l)) 0
    by_test ih true g = ap suc (ih (omega arith))
    by_test ih false g = refl

pub text_whole : (t : List ℕ) (s : Shape) (l : List ℕ) → length t ≤ along_of t l → reach (text t s) l ≡ length t + reach s (drop (length t) l)
unfolding reach text along_of allows_of
text_whole [] s l h = omega arith
text_whole (b ∷ t) s [] h = absurd (omega arith)
text_whole (b ∷ t) s (x ∷ l) h = by_test (text_whole t s l) (eqb x b) h
  where
    by_test : (length t ≤ along_of t l → reach (text t s) l ≡ length t + reach s (drop (length t) l)) → (q : Bool) → suc (length t) ≤ cond q (suc (along_of t l)) 0
        → cond q (suc (reach (text t s) l)) 0 ≡ suc (length t) + reach s (drop (length t) l)
    by_test ih true g = let e = ih (omega arith) in omega arith
    by_test ih false g = absurd (omega arith)

pub right_text : (t : List ℕ) (s : Shape) (l : List ℕ) → Right (text t s) l → (l ≡ t ++ drop (length t) l) × Right s (drop (length t) l)
unfolding reach text allows_of
right_text [] s l h = (refl, h)
right_text (b ∷ t) s [] h = absurd (omega arith)
right_text (b ∷ t) s (x ∷ l) h = by_test (right_text t s l) (eqb x b) refl h
  where
    by_test : (Right (text t s) l → (l ≡ t ++ drop (length t) l) × Right s (drop (length t) l)) → (q : Bool) → eqb x b ≡ q
        → suc (length l) < cond q (suc (reach (text t s) l)) 0 → (x ∷ l ≡ b ∷ t ++ drop (length t) l) × Right s (drop (length t) l)
    by_test ih true e g =
        let r = ih (omega arith) in
        (ap (λ (y : ℕ). y ∷ l) (eqb-true x b e) ∙ ap (λ (m : List ℕ). b ∷ m) r.0, r.1)
    by_test ih false e g = absurd (omega arith)

pub text_on : (t : List ℕ) (s : Shape) (l : List ℕ) → reach (text t s) (t ++ l) ≡ length t + reach s l
unfolding reach text allows_of
text_on [] s l = omega arith
text_on (b ∷ t) s l = let e = text_on t s l in rw (eq-eqb b b refl) (omega arith)

-- ---- bytes of a class
-- each byte is of the class
abbrev pub All : Class → List ℕ → Type 0
All c [] = Unit {0}
All c (x ∷ l) = (allows_of c x ≡ true) × All c l

pub run_in : (c : Class) (n : ℕ) (l : List ℕ) → (run_of c n l ≤ length l) × (run_of c n l ≤ n)
unfolding run_of
run_in c zero l = (omega arith, omega arith)
run_in c (suc n) [] = (omega arith, omega arith)
run_in c (suc n) (x ∷ l) = by_test (allows_of c x) (run_in c n l)
  where
    by_test : (q : Bool) → (run_of c n l ≤ length l) × (run_of c n l ≤ n) → (cond q (suc (run_of c n l)) 0 ≤ suc (length l)) × (cond q (suc (run_of c n l)) 0 ≤ suc n)
    by_test true h = (omega arith, omega arith)
    by_test false h = (omega arith, omega arith)

pub run_all : (c : Class) (n : ℕ) (l : List ℕ) → All c (take (run_of c n l) l)
unfolding run_of
run_all c zero l = tt
run_all c (suc n) [] = tt
run_all c (suc n) (x ∷ l) = by_test (allows_of c x) refl (run_all c n l)
  where
    by_test : (q : Bool) → allows_of c x ≡ q → All c (take (run_of c n l) l) → All c (take (cond q (suc (run_of c n l)) 0) (x ∷ l))
    by_test true e h = (e, h)
    by_test false e h = tt

pub run_on : (c : Class) (n : ℕ) (h : List ℕ) (x : ℕ) (l : List ℕ) → All c h → length h ≤ n → allows_of c x ≡ false → run_of c n (h ++ x ∷ l) ≡ length h
unfolding run_of
run_on c zero [] x l a k e = refl
run_on c (suc n) [] x l a k e = rw e
run_on c zero (y ∷ h) x l a k e = absurd (omega arith)
run_on c (suc n) (y ∷ h) x l (p, a) k e = rw p (ap suc (run_on c n h x l a (omega arith) e))

module _ (c : Class) (s : Shape) where
  pub many_short : (n : ℕ) (l : List ℕ) → run_of c n l < n → reach (many c n s) l ≡ run_of c n l
  unfolding reach many run_of
  many_short zero l h = absurd (omega arith)
  many_short (suc n) [] h = refl
  many_short (suc n) (x ∷ l) h = by_test (many_short n l) (allows_of c x) h
    where
      by_test : (run_of c n l < n → reach (many c n s) l ≡ run_of c n l) → (q : Bool) → cond q (suc (run_of c n l)) 0 < suc n
          → cond q (suc (reach (many c n s) l)) 0 ≡ cond q (suc (run_of c n l)) 0
      by_test ih true g = ap suc (ih (omega arith))
      by_test ih false g = refl

  pub many_whole : (n : ℕ) (l : List ℕ) → n ≤ run_of c n l → reach (many c n s) l ≡ n + reach s (drop n l)
  unfolding reach many run_of
  many_whole zero l h = omega arith
  many_whole (suc n) [] h = absurd (omega arith)
  many_whole (suc n) (x ∷ l) h = by_test (many_whole n l) (allows_of c x) h
    where
      by_test : (n ≤ run_of c n l → reach (many c n s) l ≡ n + reach s (drop n l)) → (q : Bool) → suc n ≤ cond q (suc (run_of c n l)) 0
          → cond q (suc (reach (many c n s) l)) 0 ≡ suc n + reach s (drop n l)
      by_test ih true g = let e = ih (omega arith) in omega arith
      by_test ih false g = absurd (omega arith)

  pub right_many : (n : ℕ) (l : List ℕ) → Right (many c n s) l → (n ≤ length l) × All c (take n l) × Right s (drop n l)
  unfolding reach many
  right_many zero l h = (omega arith, tt, h)
  right_many (suc n) [] h = absurd (omega arith)
  right_many (suc n) (x ∷ l) h = by_test (right_many n l) (allows_of c x) refl h
    where
      by_test : (Right (many c n s) l → (n ≤ length l) × All c (take n l) × Right s (drop n l)) → (q : Bool) → allows_of c x ≡ q
          → suc (length l) < cond q (suc (reach (many c n s) l)) 0
          → (suc n ≤ suc (length l)) × ((allows_of c x ≡ true) × All c (take n l)) × Right s (drop n l)
      by_test ih true e g = let r = ih (omega arith) in (omega (arith, r.0), (e, r.1), r.2)
      by_test ih false e g = absurd (omega arith)

  pub many_on : (h l : List ℕ) → All c h → reach (many c (length h) s) (h ++ l) ≡ length h + reach s l
  unfolding reach many
  many_on [] l a = omega arith
  many_on (x ∷ h) l (p, a) = let e = many_on h l a in rw p (omega arith)

-- ---- a part of no fixed length, before a shape that no byte of its class begins
abbrev pub Stops : Class → Shape → Type 0
Stops c s = (x : ℕ) (l : List ℕ) → allows_of c x ≡ true → reach s (x ∷ l) ≡ 0

pub up_to_lem : (c : Class) (s : Shape) → Stops c s → (n : ℕ) (l : List ℕ) → reach (up_to c n s) l ≡ run_of c n l + reach s (drop (run_of c n l) l)
unfolding reach up_to run_of
up_to_lem c s k zero l = omega arith
up_to_lem c s k (suc n) [] = omega arith
up_to_lem c s k (suc n) (x ∷ l) = by_test (up_to_lem c s k n l) (allows_of c x) refl
  where
    by_test : reach (up_to c n s) l ≡ run_of c n l + reach s (drop (run_of c n l) l) → (q : Bool) → allows_of c x ≡ q
        → max (reach s (x ∷ l)) (cond q (suc (reach (up_to c n s) l)) 0) ≡ cond q (suc (run_of c n l)) 0 + reach s (drop (cond q (suc (run_of c n l)) 0) (x ∷ l))
    by_test ih true e = let z = k x l e in omega arith
    by_test ih false e = omega arith

-- a number
not_leading : (x : ℕ) → x ≡ 48 → allows_of Leading x ≡ false
unfolding allows_of
not_leading x e = rw e

pub digits_in_lem : (n : ℕ) (l : List ℕ) → (numeral_of n l ≤ length l) × (numeral_of n l ≤ suc n)
unfolding numeral_of
digits_in_lem n [] = (omega arith, omega arith)
digits_in_lem n (x ∷ l) = by_test (eqb x 48) (allows_of Leading x) (run_in Digit n l)
  where
    by_test : (p q : Bool) → (run_of Digit n l ≤ length l) × (run_of Digit n l ≤ n)
        → (cond p 1 (cond q (suc (run_of Digit n l)) 0) ≤ suc (length l)) × (cond p 1 (cond q (suc (run_of Digit n l)) 0) ≤ suc n)
    by_test true q h = (omega arith, omega arith)
    by_test false true h = (omega arith, omega arith)
    by_test false false h = (omega arith, omega arith)

module _ (s : Shape) (k : Stops Digit s) (n : ℕ) where
  pub number_none : (l : List ℕ) → numeral_of n l ≡ 0 → reach (number n s) l ≡ 0
  unfolding reach number numeral_of allows_of
  number_none [] h = refl
  number_none (x ∷ l) h = by_test (eqb x 48) (allows_of Leading x) h
    where
      by_test : (p q : Bool) → cond p 1 (cond q (suc (run_of Digit n l)) 0) ≡ 0
          → max (cond p (suc (reach s l)) 0) (cond q (suc (reach (up_to Digit n s) l)) 0) ≡ 0
      by_test true q h = absurd (omega arith)
      by_test false true h = absurd (omega arith)
      by_test false false h = refl

  pub number_some : (l : List ℕ) → (numeral_of n l ≡ 0 → ⊥) → reach (number n s) l ≡ numeral_of n l + reach s (drop (numeral_of n l) l)
  unfolding reach number numeral_of allows_of
  number_some [] h = absurd (h refl)
  number_some (x ∷ l) h = by_test (eqb x 48) (allows_of Leading x) refl refl h
    where
      by_test : (p q : Bool) → eqb x 48 ≡ p → allows_of Leading x ≡ q → (cond p 1 (cond q (suc (run_of Digit n l)) 0) ≡ 0 → ⊥)
          → max (cond p (suc (reach s l)) 0) (cond q (suc (reach (up_to Digit n s) l)) 0)
          ≡ cond p 1 (cond q (suc (run_of Digit n l)) 0) + reach s (drop (cond p 1 (cond q (suc (run_of Digit n l)) 0)) (x ∷ l))
      by_test true true e f h = absurd (let z : ◌≡◌ {A = ℕ} 0 1 = let w = not_leading x (eqb-true x 48 e) in cc in omega arith)
      by_test true false e f h = omega arith
      by_test false true e f h = let u = up_to_lem Digit s k n l in omega arith
      by_test false false e f h = absurd (h refl)

-- twice a number, as pairs count
abbrev pub twice : ℕ → ℕ
twice zero = zero
twice (suc n) = suc (suc (twice n))

-- pairs of hex digits: how far they go by how many digits there are, an even number or an odd one
module _ (s : Shape) (k : Stops Hex s) where
  pub pairs_even : (n : ℕ) (l : List ℕ) → run_of Hex (twice n) l % 2 ≡ 0
      → reach (pairs n s) l ≡ run_of Hex (twice n) l + reach s (drop (run_of Hex (twice n) l) l)
  unfolding reach pairs run_of
  pairs_even zero l h = omega arith
  pairs_even (suc n) [] h = omega arith
  pairs_even (suc n) (x ∷ []) h = by_test (allows_of Hex x) h
    where
      by_test : (p : Bool) → cond p 1 0 % 2 ≡ 0 → max (reach s (x ∷ [])) (cond p 1 0) ≡ cond p 1 0 + reach s (drop (cond p 1 0) (x ∷ []))
      by_test true h = absurd (omega arith)
      by_test false h = omega arith
  pairs_even (suc n) (x ∷ y ∷ l) h = by_test (run_of Hex (twice n) l) (pairs_even n l) (allows_of Hex x) (allows_of Hex y) refl h
    where
      by_test : (r : ℕ) → (r % 2 ≡ 0 → reach (pairs n s) l ≡ r + reach s (drop r l)) → (p q : Bool) → allows_of Hex x ≡ p
          → cond p (suc (cond q (suc r) 0)) 0 % 2 ≡ 0
          → max (reach s (x ∷ y ∷ l)) (cond p (suc (cond q (suc (reach (pairs n s) l)) 0)) 0)
          ≡ cond p (suc (cond q (suc r) 0)) 0 + reach s (drop (cond p (suc (cond q (suc r) 0)) 0) (x ∷ y ∷ l))
      by_test r ih true true e h = let z = k x (y ∷ l) e in let i = ih (omega arith) in omega arith
      by_test r ih true false e h = absurd (omega arith)
      by_test r ih false q e h = omega arith

  pub pairs_odd : (n : ℕ) (l : List ℕ) → (run_of Hex (twice n) l % 2 ≡ 0 → ⊥) → reach (pairs n s) l ≡ run_of Hex (twice n) l
  unfolding reach pairs run_of
  pairs_odd zero l h = absurd (h refl)
  pairs_odd (suc n) [] h = absurd (h refl)
  pairs_odd (suc n) (x ∷ []) h = by_test (allows_of Hex x) refl h
    where
      by_test : (p : Bool) → allows_of Hex x ≡ p → (cond p 1 0 % 2 ≡ 0 → ⊥) → max (reach s (x ∷ [])) (cond p 1 0) ≡ cond p 1 0
      by_test true e h = let z = k x [] e in omega arith
      by_test false e h = absurd (h refl)
  pairs_odd (suc n) (x ∷ y ∷ l) h = by_test (run_of Hex (twice n) l) (pairs_odd n l) (allows_of Hex x) (allows_of Hex y) refl h
    where
      by_test : (r : ℕ) → ((r % 2 ≡ 0 → ⊥) → reach (pairs n s) l ≡ r) → (p q : Bool) → allows_of Hex x ≡ p
          → (cond p (suc (cond q (suc r) 0)) 0 % 2 ≡ 0 → ⊥)
          → max (reach s (x ∷ y ∷ l)) (cond p (suc (cond q (suc (reach (pairs n s) l)) 0)) 0) ≡ cond p (suc (cond q (suc r) 0)) 0
      by_test r ih true true e h = let z = k x (y ∷ l) e in let i = ih (λ g. h (omega arith)) in omega arith
      by_test r ih true false e h = let z = k x (y ∷ l) e in omega arith
      by_test r ih false q e h = absurd (h refl)

-- ---- taken apart: a text of the shape has the part
pub right_number : (s : Shape) (k : Stops Digit s) (n : ℕ) (l : List ℕ) → Right (number n s) l
    → (numeral_of n l ≡ 0 → ⊥) × Right s (drop (numeral_of n l) l)
right_number s k n l h =
    let some : numeral_of n l ≡ 0 → ⊥ = λ e. omega (arith, number_none s k n l e) in
    (some, omega (arith, number_some s k n l some, length-drop (numeral_of n l) l, (digits_in_lem n l).0))

pub right_pairs : (s : Shape) (k : Stops Hex s) (n : ℕ) (l : List ℕ) → Right (pairs n s) l
    → (run_of Hex (twice n) l % 2 ≡ 0) × Right s (drop (run_of Hex (twice n) l) l)
right_pairs s k n l h = by_test (eqb (run_of Hex (twice n) l % 2) 0) refl
  where
    by_test : (b : Bool) → eqb (run_of Hex (twice n) l % 2) 0 ≡ b → (run_of Hex (twice n) l % 2 ≡ 0) × Right s (drop (run_of Hex (twice n) l) l)
    by_test true e =
        let z = eqb-true (run_of Hex (twice n) l % 2) 0 e in
        (z, omega (arith, pairs_even s k n l z, length-drop (run_of Hex (twice n) l) l, (run_in Hex (twice n) l).0))
    by_test false e = absurd (omega (arith, pairs_odd s k n l (eqb-false (run_of Hex (twice n) l % 2) 0 e), (run_in Hex (twice n) l).0))
