-- Words that the comparison calls the same are equal; `==` is that comparison.
-- Assumes nothing.
use Rattle.std.proofs.Common.{◌≡◌, ℕ, Bool, true, false, ◌&&◌, eqb, List, [], ◌∷◌, sym, refl, ap, ◌∙◌, true≢false, eq-eqb, eqb-true}
use lib.Pointwise.{pointwise}
use Rattle.words.specs.Words.{same_of}

same_head : (x y : ℕ) (a b : List ℕ) → (same_of a b ≡ true → a ≡ b) → (t : Bool) → eqb x y ≡ t → (t && same_of a b) ≡ true → x ∷ a ≡ y ∷ b
same_head x y a b ih true q e = ap (λ (z : ℕ). z ∷ a) (eqb-true x y q) ∙ ap (λ (r : List ℕ). y ∷ r) (ih e)
same_head x y a b ih false q e = absurd (true≢false (sym e))

-- words that are the same are equal
pub same_are : (a b : List ℕ) → same_of a b ≡ true → a ≡ b
same_are [] [] e = refl
same_are [] (y ∷ b) e = absurd (true≢false (sym e))
same_are (x ∷ a) [] e = absurd (true≢false (sym e))
same_are (x ∷ a) (y ∷ b) e = same_head x y a b (same_are a b) (eqb x y) refl e

pub same_self : (a : List ℕ) → same_of a a ≡ true
same_self [] = refl
same_self (x ∷ a) = rw (eq-eqb x x refl) (same_self a)

pub same_pointwise : (a b : List ℕ) → pointwise eqb a b ≡ same_of a b
same_pointwise [] [] = refl
same_pointwise [] (y ∷ b) = refl
same_pointwise (x ∷ a) [] = refl
same_pointwise (x ∷ a) (y ∷ b) = ap (λ (t : Bool). eqb x y && t) (same_pointwise a b)
