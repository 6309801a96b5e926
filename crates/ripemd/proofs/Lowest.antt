-- Where the first number from a place on stands that isn't zero.
-- Assumes nothing.
use Rattle.std.proofs.Common.{ℕ, ◌+◌, ◌-◌, ◌≤◌, ◌<◌, ◌≡◌, refl, ap, sym, ◌∙◌, arith, Bool, true, false, cond, ◌&&◌, true≢false, List, [], ◌∷◌, length, get_or, take, drop, eqb, take_all}
use Prim.Native.Nat.{zero, suc}
use borrow.Author.Tests.{eqb-true, eqb-false}
use lib.ListN.{length-drop}
use lib.Seq.{get_or-drop}
use Rattle.std.specs.List.{prefix_len}
use Rattle.ripemd.specs.State.{zeros, zeros_before, lowest_of}

-- a number that isn't zero, where there is one
before_is : (l : List ℕ) → zeros l ≡ false → (zeros_before l < length l) × (get_or l (zeros_before l) 0 ≡ 0 → ⊥)
before_is [] e = absurd (true≢false e)
before_is (x ∷ l) e = by_test (eqb x 0) refl (before_is l) e
  where
    by_test : (b : Bool) → eqb x 0 ≡ b → (zeros l ≡ false → (zeros_before l < length l) × (get_or l (zeros_before l) 0 ≡ 0 → ⊥)) → (b && zeros l) ≡ false
        → (cond b (suc (zeros_before l)) 0 < suc (length l)) × (get_or (x ∷ l) (cond b (suc (zeros_before l)) 0) 0 ≡ 0 → ⊥)
    by_test true h rest z = let k = rest z in (omega (arith, k.0), k.1)
    by_test false h rest z = (omega arith, eqb-false x 0 h)

-- with zeros before it
before_zero : (l : List ℕ) (j : ℕ) → j < zeros_before l → get_or l j 0 ≡ 0
before_zero [] j h = absurd (omega arith)
before_zero (x ∷ l) j h = by_test (eqb x 0) refl (before_zero l) j h
  where
    by_test : (b : Bool) → eqb x 0 ≡ b → ((i : ℕ) → i < zeros_before l → get_or l i 0 ≡ 0) → (j : ℕ) → j < cond b (suc (zeros_before l)) 0
        → get_or (x ∷ l) j 0 ≡ 0
    by_test true h rest zero k = eqb-true x 0 h
    by_test true h rest (suc j) k = rest j (omega arith)
    by_test false h rest j k = absurd (omega arith)

module _ (l : List ℕ) (from : ℕ) where
  pub lowest_from : from ≤ lowest_of l from
  unfolding lowest_of
  lowest_from = omega arith

  pub lowest_is : zeros (drop from l) ≡ false → (lowest_of l from < length l) × (get_or l (lowest_of l from) 0 ≡ 0 → ⊥)
  unfolding lowest_of
  lowest_is e =
      let k = before_is (drop from l) e in
      (omega (arith, length-drop from l, k.0), λ z. k.1 (get_or-drop from l (zeros_before (drop from l)) 0 ∙ z))

  pub lowest_before : (j : ℕ) → from ≤ j → j < lowest_of l from → get_or l j 0 ≡ 0
  unfolding lowest_of
  lowest_before j a b =
      let e : j ≡ from + (j - from) = omega arith in
      ap (λ (i : ℕ). get_or l i 0) e ∙ sym (get_or-drop from l (j - from) 0) ∙ before_zero (drop from l) (j - from) (omega arith)

-- ---- the zeros in front, as a count of them gives it
in_front : (l : List ℕ) → zeros_before l ≡ prefix_len (λ x. eqb x 0) l
in_front [] = refl
in_front (x ∷ l) = by_test (eqb x 0) (in_front l)
  where
    by_test : (b : Bool) → zeros_before l ≡ prefix_len (λ y. eqb y 0) l → cond b (suc (zeros_before l)) 0 ≡ cond b (1 + prefix_len (λ y. eqb y 0) l) 0
    by_test true e = omega (arith, e)
    by_test false e = refl

all_before : (l : List ℕ) → zeros l ≡ true → zeros_before l ≡ length l
all_before [] e = refl
all_before (x ∷ l) e = by_test (eqb x 0) (all_before l) e
  where
    by_test : (b : Bool) → (zeros l ≡ true → zeros_before l ≡ length l) → (b && zeros l) ≡ true → cond b (suc (zeros_before l)) 0 ≡ suc (length l)
    by_test true rest z = ap suc (rest z)
    by_test false rest z = absurd (true≢false (sym z))

-- behind a place, as a slice from there on holds the numbers
module _ (n : ℕ) (all : List ℕ) where
  abbrev pub after : List ℕ
  after = take (length all - n) (drop n all)

  after_is : after ≡ drop n all
  after_is = take_all (length all - n) (drop n all) (omega (arith, length-drop n all))

  pub zeros_after : zeros after ≡ zeros (drop n all)
  zeros_after = ap zeros after_is

  pub counted : (k : ℕ) → k ≡ prefix_len (λ x. eqb x 0) after → zeros_before (drop n all) ≡ k
  counted k e = in_front (drop n all) ∙ ap (prefix_len (λ x. eqb x 0)) (sym after_is) ∙ sym e

  -- there are zeros alone where as many stand in front as there are numbers
  pub none_left : (k : ℕ) → k ≡ prefix_len (λ x. eqb x 0) after → length after ≤ k → zeros (drop n all) ≡ true
  none_left k e h = by_test (zeros (drop n all)) refl
    where
      by_test : (b : Bool) → zeros (drop n all) ≡ b → b ≡ true
      by_test true q = refl
      by_test false q =
          let b = before_is (drop n all) q in
          absurd (omega (arith, h, b.0, counted k e, ap length after_is))

  pub some_left : (k : ℕ) → k ≡ prefix_len (λ x. eqb x 0) after → k < length after → zeros (drop n all) ≡ false
  some_left k e h = by_test (zeros (drop n all)) refl
    where
      by_test : (b : Bool) → zeros (drop n all) ≡ b → b ≡ false
      by_test true q = absurd (omega (arith, h, all_before (drop n all) q, counted k e, ap length after_is))
      by_test false q = refl
