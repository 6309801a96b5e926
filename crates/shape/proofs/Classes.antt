-- What a class says of a byte.
-- Assumes nothing.
use Prim.Native.Nat.{ℕ, ◌≤◌}
use mathlib.Core.Path.{◌≡◌, refl}
use mathlib.Core.Bool.{Bool, true, false, ◌&&◌, ◌||◌}
use mathlib.Core.List.{List, ◌∷◌}
use mathlib.Core.Logic.{◌⊎◌, inl, inr}
use native.Mathlib.Omega.{arith}
use borrow.Author.Tests.{leb-true, le-leb, ne_eqb}
use lib.Dec.{leb}
use Rattle.shape.specs.declared.Class.{Class}
use Rattle.shape.specs.declared.Class.TheVariants.{Leading, Digit, Hex}
use Rattle.shape.specs.Shape.{Shape, within, allows_of, reach, text}
use Rattle.shape.proofs.Parts.{Stops}

pub within_both : (a b x : ℕ) → within a b x ≡ true → (a ≤ x) × (x ≤ b)
within_both a b x h = by_test (leb a x) (leb x b) refl refl h
  where
    by_test : (p q : Bool) → leb a x ≡ p → leb x b ≡ q → (p && q) ≡ true → (a ≤ x) × (x ≤ b)
    by_test true true e f h = (leb-true a x e, leb-true x b f)
    by_test true false e f h = absurd (let z : ◌≡◌ {A = ℕ} 0 1 = cc in omega arith)
    by_test false q e f h = absurd (let z : ◌≡◌ {A = ℕ} 0 1 = cc in omega arith)

pub within_is : (a b x : ℕ) → a ≤ x → x ≤ b → within a b x ≡ true
within_is a b x h k = rw (le-leb a x h, le-leb x b k)

pub either_one : (p q : Bool) → (p || q) ≡ true → (p ≡ true) ⊎ (q ≡ true)
either_one true q h = inl refl
either_one false q h = inr h

pub digit_is : (x : ℕ) → allows_of Digit x ≡ true → (48 ≤ x) × (x ≤ 57)
unfolding allows_of
digit_is x h = within_both 48 57 x h

pub leading_is : (x : ℕ) → allows_of Leading x ≡ true → (49 ≤ x) × (x ≤ 57)
unfolding allows_of
leading_is x h = within_both 49 57 x h

pub is_digit : (x : ℕ) → 48 ≤ x → x ≤ 57 → allows_of Digit x ≡ true
unfolding allows_of
is_digit x h k = within_is 48 57 x h k

pub is_leading : (x : ℕ) → 49 ≤ x → x ≤ 57 → allows_of Leading x ≡ true
unfolding allows_of
is_leading x h k = within_is 49 57 x h k

-- ---- a line feed is no digit, so that digits stop before it
pub feed_digit : allows_of Digit 10 ≡ false
unfolding allows_of
feed_digit = refl

pub feed_hex : allows_of Hex 10 ≡ false
unfolding allows_of
feed_hex = refl

pub stop_feed : (c : Class) → allows_of c 10 ≡ false → (t : List ℕ) (s : Shape) → Stops c (text (10 ∷ t) s)
unfolding reach text allows_of
stop_feed c e t s x l h = rw (ne_eqb x 10 (λ q. let z : ◌≡◌ {A = ℕ} 0 1 = cc in omega arith))
