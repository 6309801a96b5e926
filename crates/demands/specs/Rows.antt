-- What the tests of the tables' rows say.
-- Assumes nothing.
use Rattle.std.specs.Prelude.{ℕ, ◌+◌, ◌-◌, ◌≤◌, ◌<◌, ◌≡◌, refl, Bool, true, false, not, List, ◌∷◌, eqb, leb, length, get_or, drop}
use Rattle.std.proofs.Common.{ap, sym, ◌∙◌, arith, eqb-true, leb-true, leb-false, get_or-drop}
use Rattle.std.proofs.lemmas.Bool.{eqb-false, not-true, not-false}
use Rattle.compress.specs.Block.{initial_of}
use Rattle.compress.specs.declared.Width.{Width}
use Rattle.ripemd.specs.Refusals.{Row, ◌when◌}
use Rattle.ripemd.specs.State.{zeros, lowest_of, wrong_start}
use Rattle.ripemd.proofs.Starts.{starts, starts_not}
use Rattle.ripemd.proofs.Zeros.{zeros_at}
use Rattle.ripemd.proofs.Lowest.{lowest_from, lowest_is, lowest_before}
use Rattle.demands.specs.Numbers.{number, Other, Decides, one_row}

-- two numbers differ
pub equal_row : (n a b : ℕ) (rs : List Row) (rest : Type 0 → ℕ → Type 0) → Other rs n → Decides rs rest
    → Decides ((n when not (eqb a b)) ∷ rs) (number n (¬ (a ≡ b)) rest)
equal_row n a b rs rest =
    one_row n (not (eqb a b)) (¬ (a ≡ b)) rs rest
    (λ e. eqb-false a b (not-true (eqb a b) e))
    (λ e k. k (eqb-true a b (not-false (eqb a b) e)))

-- one is at least the other
pub least_row : (n a b : ℕ) (rs : List Row) (rest : Type 0 → ℕ → Type 0) → Other rs n → Decides rs rest
    → Decides ((n when leb a b) ∷ rs) (number n (a ≤ b) rest)
least_row n a b rs rest =
    one_row n (leb a b) (a ≤ b) rs rest (leb-true a b) (λ e k. let l = leb-false a b e in omega arith)

-- no block is counted, and the words aren't the initial ones
pub start_row : (n : ℕ) (w : Width) (h : List ℕ) (c : ℕ) (rs : List Row) (rest : Type 0 → ℕ → Type 0) → Other rs n → Decides rs rest
    → Decides ((n when wrong_start w h c) ∷ rs) (number n ((c ≡ 0) × (¬ (h ≡ initial_of w))) rest)
start_row n w h c rs rest =
    one_row n (wrong_start w h c) ((c ≡ 0) × (¬ (h ≡ initial_of w))) rs rest (starts_not w h c) (λ e k. k.1 (starts w h c e k.0))

-- ---- a number that isn't zero, from a place on
-- there is one
abbrev pub Nonzero : List ℕ → ℕ → Type 0
Nonzero l from = (i : ℕ) × ((from ≤ i) × (i < length l) × (¬ (get_or l i 0 ≡ 0)))

-- i is the lowest index of one: the number there isn't zero, and each one before it from the place on is
pub record Lowest (l : List ℕ) (from i : ℕ) : Type 0 where
  pub after : from ≤ i
  pub inside : i < length l
  pub nonzero : ¬ (get_or l i 0 ≡ 0)
  pub before : (j : ℕ) → from ≤ j → j < i → get_or l j 0 ≡ 0

module _ (l : List ℕ) (from : ℕ) where
  there_is : zeros (drop from l) ≡ false → Nonzero l from
  there_is e = let k = lowest_is l from e in (lowest_of l from, (lowest_from l from, k.0, k.1))

  there_is_none : zeros (drop from l) ≡ true → ¬ Nonzero l from
  there_is_none e k =
      let i : from + (k.0 - from) ≡ k.0 = omega (arith, k.1.0) in
      k.1.2 (ap (λ (j : ℕ). get_or l j 0) (sym i) ∙ sym (get_or-drop from l (k.0 - from) 0) ∙ zeros_at (drop from l) e (k.0 - from))

  pub lowest : Nonzero l from → Lowest l from (lowest_of l from)
  lowest k = by_test (zeros (drop from l)) refl
    where
      by_test : (b : Bool) → zeros (drop from l) ≡ b → Lowest l from (lowest_of l from)
      by_test true e = absurd (there_is_none e k)
      by_test false e =
          record {
            after = lowest_from l from;
            inside = (lowest_is l from e).0;
            nonzero = (lowest_is l from e).1;
            before = lowest_before l from;
          }

  pub nonzero_row : (n : ℕ) (rs : List Row) (rest : Type 0 → ℕ → Type 0) → Other rs n → Decides rs rest
      → Decides ((n when not (zeros (drop from l))) ∷ rs) (number n (Nonzero l from) rest)
  nonzero_row n rs rest =
      one_row n (not (zeros (drop from l))) (Nonzero l from) rs rest
      (λ e. there_is (not-true (zeros (drop from l)) e))
      (λ e. there_is_none (not-false (zeros (drop from l)) e))
