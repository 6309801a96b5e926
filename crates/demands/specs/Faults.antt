-- WHAT IS WRONG WITH A STATE: the five faults, each with its number, exactly; and the index that goes with two of
-- them. That fault and the calls on a state answer so: proofs/Faults.antt, Demand1.antt and Sheets.antt.
-- Assumes nothing.
use Rattle.std.specs.Prelude.{ℕ, ◌^◌, ◌≤◌, ◌≡◌, List, [], ◌∷◌, ◌↔◌}
use Rattle.compress.specs.Block.{used_of, initial_of}
use Rattle.ripemd.specs.State.{WellFormed, fault_of}
use Rattle.ripemd.specs.Answers.{Answer}
use Rattle.ripemd.specs.declared.State.{State}
use Rattle.ripemd.proofs.Well.{well, no_fault}
use Rattle.demands.specs.Numbers.{number, OneOf, Given}
use Rattle.demands.specs.Rows.{Nonzero, Lowest}

-- a table that begins with the faults, in their order, and then has the rest: a fill of 64 or more, a count of 2^55 or more, a nonzero tail byte from the
-- fill on, a nonzero word that the width doesn't use, a count of 0 with words other than the initial ones
abbrev pub faults : State → (Type 0 → ℕ → Type 0) → Type 0 → ℕ → Type 0
faults s rest =
    number 60 (64 ≤ s.fill)
    (number 61 (2 ^ 55 ≤ s.count.0)
    (number 62 (Nonzero s.tail s.fill)
    (number 63 (Nonzero s.words (used_of s.width))
    (number 64 ((s.count.0 ≡ 0) × (¬ (s.words ≡ initial_of s.width))) rest))))

-- what the index i beside the number n is: with 62 the lowest of such a byte in the tail, with 63 the lowest of such a word among the ten, and 0
-- with every other number
pub record Index (s : State) (n i : ℕ) : Type 0 where
  pub byte : n ≡ 62 → Lowest s.tail s.fill i
  pub word : n ≡ 63 → Lowest s.words (used_of s.width) i
  pub none : ¬ (n ≡ 62) → ¬ (n ≡ 63) → i ≡ 0

-- n is the number of a fault
abbrev pub Fault : ℕ → Type 0
Fault n = OneOf n (60 ∷ 61 ∷ 62 ∷ 63 ∷ 64 ∷ [])

-- what a call on a state answers: a number as the table says, and one of these; its index; and where that is the number of a fault, fault gives
-- the same
pub record Asked (s : State) (ns : List ℕ) (table : Type 0 → ℕ → Type 0) (a : Answer) : Type 0 where
  pub numbers : Given ns table a.number
  pub index : Index s a.number a.index
  pub same : Fault a.number → fault_of s ≡ a.number

-- it finds nothing exactly where the state is well formed
pub fault_none : (s : State) → fault_of s ≡ 0 ↔ WellFormed s
fault_none s = (well s, no_fault s)
