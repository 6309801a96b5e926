-- The shape that is computed is the one that is defined: a text goes along it as far as some text of right shape shares its beginning.
-- Assumes nothing.
use Prim.Native.Nat.{ℕ, ◌≤◌}
use mathlib.Core.Path.{◌≡◌, refl, ap, sym, ◌∙◌}
use mathlib.Core.Bool.{Bool, true, false}
use mathlib.Core.List.{List, ◌++◌}
use mathlib.Core.Logic.{◌⊎◌, inl, inr, ⊎_elim}
use native.Mathlib.Omega.{arith}
use borrow.Author.Tests.{le-ltb, ltb-true, ltb-false}
use lib.ListN.{length, take, drop, take-append-drop, length-append}
use lib.Seq.{length-take-le, take-append-le}
use Rattle.compress.specs.declared.Width.{Width}
use Rattle.compress.specs.declared.Width.TheVariants.{W128, W160, W256, W320}
use Rattle.compress.proofs.Kept.{used_le}
use Rattle.shape.specs.Shape.{reach}
use Rattle.shape.proofs.Reach.{Right, extends, shares}
use Rattle.shape.proofs.Decimal.{decimal_few}
use Rattle.sheet.specs.Sheet.{Shaped, Begins}
use Rattle.sheet.specs.Reading.{shape_of, sheet_shape, is_sheet, read_of, refused_of}
use Rattle.sheet.proofs.Lines.{text_long}
use Rattle.sheet.proofs.Apart.{shaped}
use Rattle.sheet.proofs.Together.{text_shape}
use Rattle.sheet.proofs.Answers.{far_width, read_wrong}

pub right_of : (w : Width) (l : List ℕ) → Right (shape_of w) l → Right sheet_shape l
unfolding reach
right_of W128 l h = omega arith
right_of W160 l h = omega arith
right_of W256 l h = omega arith
right_of W320 l h = omega arith

pub sheet_shaped : (l : List ℕ) → Right sheet_shape l → Shaped l
sheet_shaped l h = shaped _ l (far_width l h)

pub shaped_sheet : (l : List ℕ) → Shaped l → Right sheet_shape l
shaped_sheet l k =
    right_of k.width l
    (rw k.is (text_shape k.width k.count k.words k.tail k.digits k.words_are k.words_long k.tail_are k.tail_long))

-- a text has the right shape, or it hasn't
pub shaped_or_not : (l : List ℕ) → (Shaped l × (is_sheet l ≡ true)) ⊎ ((¬ Shaped l) × (is_sheet l ≡ false))
shaped_or_not l = by_test (is_sheet l) refl
  where
    by_test : (b : Bool) → is_sheet l ≡ b → (Shaped l × (is_sheet l ≡ true)) ⊎ ((¬ Shaped l) × (is_sheet l ≡ false))
    by_test true e = inl (sheet_shaped l (ltb-true (length l) (reach sheet_shape l) e), e)
    by_test false e = inr (λ k. (let r = shaped_sheet l k in let g = ltb-false (length l) (reach sheet_shape l) e in omega arith), e)

-- the first bytes as far as the text goes begin some text of right shape, and no longer beginning does
pub begins : (l : List ℕ) → reach sheet_shape l ≤ length l → Begins (take (reach sheet_shape l) l)
begins l k = let r = extends sheet_shape (reach sheet_shape l) l k (omega arith) in (r.0, sheet_shaped (take (reach sheet_shape l) l ++ r.0) r.1)

pub longest : (l : List ℕ) (n : ℕ) → n ≤ length l → Begins (take n l) → n ≤ reach sheet_shape l
longest l n h (rest, k) =
    let s = rw take-append-drop at (shares sheet_shape (take n l) (drop n l) rest (shaped_sheet (take n l ++ rest) k)) in
    omega (arith, length-take-le n l h)

-- ---- no sheet is longer than 254 bytes, so that bytes from the 256th on change nothing
pub sheet_few : (l : List ℕ) → Shaped l → length l ≤ 254
sheet_few l k =
    let e = ap length k.is ∙ text_long k.width k.count k.words k.tail in
    omega (arith, k.words_long, k.tail_long, used_le k.width, decimal_few k.count k.digits)

begins_few : (p : List ℕ) → Begins p → length p ≤ 254
begins_few p (rest, k) = omega (arith, sheet_few (p ++ rest) k, length-append p rest)

module _ (l m : List ℕ) (h : 255 ≤ length l) where
  not_right : (l₁ : List ℕ) → 255 ≤ length l₁ → reach sheet_shape l₁ ≤ length l₁
  not_right l₁ g =
      ⊎_elim
      (λ k. absurd (omega (arith, sheet_few l₁ k.0)))
      (λ k. ltb-false (length l₁) (reach sheet_shape l₁) k.1)
      (shaped_or_not l₁)

  few : (l₁ : List ℕ) → 255 ≤ length l₁ → reach sheet_shape l₁ ≤ 254
  few l₁ g =
      let r = not_right l₁ g in
      omega (arith, begins_few (take (reach sheet_shape l₁) l₁) (begins l₁ r), length-take-le (reach sheet_shape l₁) l₁ r)

  same_reach : reach sheet_shape (l ++ m) ≡ reach sheet_shape l
  same_reach =
      let la = length-append l m in
      let a = few (l ++ m) (omega arith) in
      let b = few l h in
      let p : take (reach sheet_shape (l ++ m)) (l ++ m) ≡ take (reach sheet_shape (l ++ m)) l = take-append-le (reach sheet_shape (l ++ m)) l m (omega arith) in
      let q : take (reach sheet_shape l) (l ++ m) ≡ take (reach sheet_shape l) l = take-append-le (reach sheet_shape l) l m (omega arith) in
      let u = longest l (reach sheet_shape (l ++ m)) (omega arith) (rw p at (begins (l ++ m) (omega arith))) in
      let v = longest (l ++ m) (reach sheet_shape l) (omega arith) (rw q (begins l (omega arith))) in
      omega arith

  pub read_front : read_of (l ++ m) ≡ read_of l
  read_front =
      let la = length-append l m in
      let e = le-ltb (length (l ++ m)) (reach sheet_shape (l ++ m)) (not_right (l ++ m) (omega arith)) in
      let f = le-ltb (length l) (reach sheet_shape l) (not_right l h) in
      read_wrong (l ++ m) e ∙ ap (refused_of 8) same_reach ∙ sym (read_wrong l f)
