-- How far a text goes along a shape is the length of its longest beginning that some text of the shape shares. For every shape.
-- Assumes nothing.
use Prim.Native.Nat.{ℕ, zero, suc, ◌≤◌, ◌<◌, max}
use mathlib.Core.Path.{◌≡◌, refl}
use mathlib.Core.Bool.{Bool, true, false, cond}
use mathlib.Core.List.{List, [], ◌∷◌, ◌++◌}
use mathlib.Core.Logic.{◌⊎◌, inl, inr, ⊎_elim}
use native.Mathlib.Omega.{arith}
use borrow.Author.Tests.{eq-eqb, ltb-true, ltb-false}
use lib.Dec.{ltb}
use lib.ListN.{length, take}
use Rattle.shape.specs.declared.Class.{Class}
use Rattle.shape.specs.declared.Class.TheVariants.{Just, Leading, Digit, Hex}
use Rattle.shape.specs.Shape.{Shape, ended, byte, either, allows_of, reach}

-- the whole text has the shape
abbrev pub Right : Shape → List ℕ → Type 0
Right s l = length l < reach s l

-- a text goes no farther than it is long, and one more where it has the shape
pub reach_in : (s : Shape) (l : List ℕ) → reach s l ≤ suc (length l)
unfolding reach
reach_in ended [] = omega arith
reach_in ended (x ∷ l) = omega arith
reach_in (byte c s) [] = omega arith
reach_in (byte c s) (x ∷ l) = by_test (allows_of c x) (reach_in s l)
  where
    by_test : (q : Bool) → reach s l ≤ suc (length l) → cond q (suc (reach s l)) 0 ≤ suc (suc (length l))
    by_test true h = omega arith
    by_test false h = omega arith
reach_in (either s t) l = omega (arith, reach_in s l, reach_in t l)

-- below the larger of two is below one of them
of_two : (n a b : ℕ) → n < max a b → (n < a) ⊎ (n < b)
of_two n a b h = by_test (ltb n a) refl
  where
    by_test : (t : Bool) → ltb n a ≡ t → (n < a) ⊎ (n < b)
    by_test true e = inl (ltb-true n a e)
    by_test false e = let g = ltb-false n a e in inr (omega arith)

-- a byte of each class
sample : (c : Class) → (b : ℕ) × (allows_of c b ≡ true)
unfolding allows_of
sample (Just b) = (b, eq-eqb b b refl)
sample Leading = (49, refl)
sample Digit = (48, refl)
sample Hex = (48, refl)

-- a text of each shape
some : (s : Shape) → (t : List ℕ) × Right s t
unfolding reach
some ended = ([], omega arith)
some (byte c s) = let b = sample c in let t = some s in (b.0 ∷ t.0, rw b.1 (omega (arith, t.1)))
some (either s u) = let t = some s in (t.0, omega (arith, t.1))

-- some text of the shape begins with p
abbrev Goes : Shape → List ℕ → Type 0
Goes s p = (rest : List ℕ) × Right s (p ++ rest)

goes_byte : (c : Class) (s : Shape) (x : ℕ) (p : List ℕ) → allows_of c x ≡ true → Goes s p → Goes (byte c s) (x ∷ p)
unfolding reach
goes_byte c s x p e (r, h) = (r, rw e (omega arith))

goes_first : (s t : Shape) (p : List ℕ) → Goes s p → Goes (either s t) p
unfolding reach
goes_first s t p (r, h) = (r, omega arith)

goes_second : (s t : Shape) (p : List ℕ) → Goes t p → Goes (either s t) p
unfolding reach
goes_second s t p (r, h) = (r, omega arith)

-- a beginning no longer than the reach begins some text of the shape
pub extends : (s : Shape) (n : ℕ) (l : List ℕ) → n ≤ length l → n ≤ reach s l → (rest : List ℕ) × Right s (take n l ++ rest)
unfolding reach
extends s zero l k h = some s
extends ended (suc n) [] k h = absurd (omega arith)
extends ended (suc n) (x ∷ l) k h = absurd (omega arith)
extends (byte c s) (suc n) [] k h = absurd (omega arith)
extends (byte c s) (suc n) (x ∷ l) k h = by_test (extends s n l) (allows_of c x) refl h
  where
    by_test : (n ≤ length l → n ≤ reach s l → Goes s (take n l)) → (b : Bool) → allows_of c x ≡ b → suc n ≤ cond b (suc (reach s l)) 0
        → Goes (byte c s) (x ∷ take n l)
    by_test ih true e g = goes_byte c s x (take n l) e (ih (omega arith) (omega arith))
    by_test ih false e g = absurd (omega arith)
extends (either s t) (suc n) l k h =
    ⊎_elim
    (λ g. goes_first s t (take (suc n) l) (extends s (suc n) l k (omega arith)))
    (λ g. goes_second s t (take (suc n) l) (extends t (suc n) l k (omega arith)))
    (of_two n (reach s l) (reach t l) (omega arith))

-- a beginning that some text of the shape shares is no longer than the reach
pub shares : (s : Shape) (p q r : List ℕ) → Right s (p ++ r) → length p ≤ reach s (p ++ q)
unfolding reach
shares s [] q r h = omega arith
shares ended (x ∷ p) q r h = absurd (omega arith)
shares (byte c s) (x ∷ p) q r h = by_test (shares s p q r) (allows_of c x) h
  where
    by_test : (Right s (p ++ r) → length p ≤ reach s (p ++ q)) → (b : Bool) → suc (length (p ++ r)) < cond b (suc (reach s (p ++ r))) 0 → suc (length p) ≤ cond b (suc (reach s (p ++ q))) 0
    by_test ih true g = omega (arith, ih (omega arith))
    by_test ih false g = absurd (omega arith)
shares (either s t) (x ∷ p) q r h =
    ⊎_elim
    (λ g. omega (arith, shares s (x ∷ p) q r g))
    (λ g. omega (arith, shares t (x ∷ p) q r g))
    (of_two (suc (length (p ++ r))) (reach s (x ∷ p ++ r)) (reach t (x ∷ p ++ r)) h)
