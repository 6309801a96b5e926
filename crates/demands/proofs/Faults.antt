-- That each call on a state answers by the state's faults first, and that fault answers by them alone.
-- Assumes nothing.
use Rattle.std.specs.Prelude.{ℕ, ◌^◌, ◌≤◌, ◌<◌, refl, List, [], ◌∷◌, ◌++◌}
use Rattle.std.proofs.Common.{inl, inr, arith, eq-eqb, ne_eqb}
use Rattle.compress.specs.Block.{used_of}
use Rattle.ripemd.specs.Refusals.{Row, found, first}
use Rattle.ripemd.specs.State.{fault_rows, fault_of, index_of, answer_of}
use Rattle.ripemd.specs.declared.State.{State}
use Rattle.ripemd.proofs.Well.{faults_numbered}
use Rattle.demands.specs.Numbers.{nothing, Given, Other, Decides, no_row, found_first, was_found, numbers_of, given}
use Rattle.demands.specs.Rows.{least_row, start_row, lowest, nonzero_row}
use Rattle.demands.specs.Faults.{faults, Index, Fault, Asked}

-- ---- that such calls give this
at_least_60 : (n : ℕ) → Fault n → 60 ≤ n
at_least_60 n (inl p) = omega arith
at_least_60 n (inr (inl p)) = omega arith
at_least_60 n (inr (inr (inl p))) = omega arith
at_least_60 n (inr (inr (inr (inl p)))) = omega arith
at_least_60 n (inr (inr (inr (inr (inl p))))) = omega arith
at_least_60 n (inr (inr (inr (inr (inr none))))) = elim none [ ]

-- the rows behind the faults have lower numbers
abbrev pub Lower : List Row → Type 0
Lower [] = Unit {0}
Lower (r ∷ rs) = (r.0 < 60) × Lower rs

lower_other : (rs : List Row) → Lower rs → (n : ℕ) → 60 ≤ n → Other rs n
lower_other [] k n h = λ e. omega arith
lower_other (r ∷ rs) k n h = (λ e. omega (arith, k.0), lower_other rs k.1 n h)

-- an index from the table
index_is : (s : State) (rest : Type 0 → ℕ → Type 0) (x : ℕ) → faults s rest (Unit {0}) x → Index s x (index_of s x)
unfolding index_of
index_is s rest x t =
    record {
      byte = λ e. rw (eq-eqb x 62 e) (lowest s.tail s.fill (t.1.1.0.0 e).1);
      word = λ e. rw (ne_eqb x 62 (λ z. omega arith), eq-eqb x 63 e) (lowest s.words (used_of s.width) (t.1.1.1.0.0 e).1);
      none = λ a b. rw (ne_eqb x 62 a, ne_eqb x 63 b);
    }

module _ (s : State) (rs : List Row) (low : Lower rs) where
  rows : (rest : Type 0 → ℕ → Type 0) → Decides rs rest → Decides (fault_rows s ++ rs) (faults s rest)
  rows rest d =
      least_row 60 64 s.fill _ _ (λ e. omega arith, (λ e. omega arith, (λ e. omega arith, (λ e. omega arith, lower_other rs low 60 (omega arith)))))
      (least_row 61 (2 ^ 55) s.count.0 _ _ (λ e. omega arith, (λ e. omega arith, (λ e. omega arith, lower_other rs low 61 (omega arith))))
      (nonzero_row s.tail s.fill 62 _ _ (λ e. omega arith, (λ e. omega arith, lower_other rs low 62 (omega arith)))
      (nonzero_row s.words (used_of s.width) 63 _ _ (λ e. omega arith, lower_other rs low 63 (omega arith))
      (start_row 64 s.width s.words s.count.0 rs rest (lower_other rs low 64 (omega arith)) d))))

  numbers : (rest : Type 0 → ℕ → Type 0) → Decides rs rest → Given (numbers_of (fault_rows s ++ rs)) (faults s rest) (first (found (fault_of s) ∷ rs))
  unfolding fault_of
  numbers rest d = rw (found_first (fault_rows s) rs (faults_numbered s)) (given (rows rest d))

  pub fault_first : (rest : Type 0 → ℕ → Type 0) → Decides rs rest
      → Asked s (numbers_of (fault_rows s ++ rs)) (faults s rest) (answer_of s (first (found (fault_of s) ∷ rs)))
  fault_first rest d =
      let g = numbers rest d in
      record {
        numbers = g;
        index = index_is s rest _ g.exactly;
        same = λ f. was_found (fault_of s) _ rs (lower_other rs low _ (at_least_60 _ f)) refl;
      }

-- ---- fault itself
pub fault_numbers : (s : State) → Asked s (60 ∷ 61 ∷ 62 ∷ 63 ∷ 64 ∷ 0 ∷ []) (faults s nothing) (answer_of s (fault_of s))
unfolding fault_of
fault_numbers s =
    let g = given (rows s [] tt nothing no_row) in
    record { numbers = g; index = index_is s nothing (fault_of s) g.exactly; same = λ f. refl }
