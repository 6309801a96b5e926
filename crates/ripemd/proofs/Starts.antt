-- What the test of a start says: with no blocks counted, the words are the initial ones or they aren't.
-- Assumes nothing.
use Prim.Native.Nat.{ℕ}
use mathlib.Core.Path.{◌≡◌, refl, sym, ap, ◌∙◌}
use mathlib.Core.List.{List}
use mathlib.Core.Bool.{Bool, true, false, ◌&&◌, not, true≢false}
use borrow.Author.Tests.{eqb-true, eq-eqb, ne_eqb, not-false}
use lib.Dec.{eqb}
use Rattle.words.specs.Words.{same_of}
use Rattle.words.proofs.Runs.{same_are, same_self}
use Rattle.compress.specs.Block.{initial_of}
use Rattle.compress.specs.declared.Width.{Width}
use Rattle.ripemd.specs.State.{wrong_start}

module _ (w : Width) (h : List ℕ) (c : ℕ) where
  -- after a block no start is wrong
  pub start_past : (c ≡ 0 → ⊥) → wrong_start w h c ≡ false
  unfolding wrong_start
  start_past n = rw (ne_eqb c 0 n)

  -- before it the words say
  pub start_now : c ≡ 0 → wrong_start w h c ≡ not (same_of h (initial_of w))
  unfolding wrong_start
  start_now z = rw (eq-eqb c 0 z)

  pub starts : wrong_start w h c ≡ false → c ≡ 0 → h ≡ initial_of w
  starts e z = same_are h (initial_of w) (not-false (same_of h (initial_of w)) (sym (start_now z) ∙ e))

  pub starts_not : wrong_start w h c ≡ true → (c ≡ 0) × (h ≡ initial_of w → ⊥)
  unfolding wrong_start
  starts_not e = by_test (eqb c 0) (same_of h (initial_of w)) refl refl e
    where
      by_test : (a b : Bool) → eqb c 0 ≡ a → same_of h (initial_of w) ≡ b → (a && not b) ≡ true → (c ≡ 0) × (h ≡ initial_of w → ⊥)
      by_test true true p q r = absurd (true≢false (sym r))
      by_test true false p q r = (eqb-true c 0 p, λ z. true≢false (sym (ap (same_of h) (sym z) ∙ same_self h) ∙ q))
      by_test false b p q r = absurd (true≢false (sym r))

  pub right_start : (c ≡ 0 → h ≡ initial_of w) → wrong_start w h c ≡ false
  right_start k = by_test (wrong_start w h c) refl
    where
      by_test : (b : Bool) → wrong_start w h c ≡ b → b ≡ false
      by_test true e = let n = starts_not e in absurd (n.1 (k n.0))
      by_test false e = refl
