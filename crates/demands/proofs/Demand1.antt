-- DEMAND 1, of the calls on a state: feed, finish and export give the scope's numbers exactly where the scope says, in its order, and no other.
-- Assumes nothing.
use Rattle.std.specs.Prelude.{ℕ, ◌+◌, ◌^◌, ◌≤◌, ◌≡◌, List, [], ◌∷◌, length}
use Rattle.std.proofs.Common.{arith}
use Rattle.ripemd.specs.State.{taken_of, answer_of}
use Rattle.ripemd.specs.Feed.{feed_number, feed_of, answered}
use Rattle.ripemd.specs.Digest.{digest_length}
use Rattle.ripemd.specs.Finish.{finish_number}
use Rattle.ripemd.specs.Record.{record_length, export_number}
use Rattle.ripemd.specs.declared.State.{State}
use Rattle.demands.specs.Numbers.{number, nothing, no_row}
use Rattle.demands.specs.Rows.{equal_row, least_row}
use Rattle.demands.specs.Faults.{faults, Asked}
use Rattle.demands.proofs.Faults.{fault_first}

-- feed: the state's fault, then 1 where the bytes taken and the piece make 2^61 or more
pub feed_numbers : (s : State) (p : List ℕ)
    → Asked s (60 ∷ 61 ∷ 62 ∷ 63 ∷ 64 ∷ 1 ∷ 0 ∷ []) (faults s (number 1 (2 ^ 61 ≤ taken_of s + length p) nothing)) (answered (feed_of s p))
unfolding feed_of feed_number
feed_numbers s p =
    fault_first s _ (omega arith, tt) _ (least_row 1 (2 ^ 61) (taken_of s + length p) [] nothing (λ e. omega arith) no_row)

-- finish: the state's fault, then 3 for an output of another length
pub finish_numbers : (s : State) (o : List ℕ)
    → Asked s (60 ∷ 61 ∷ 62 ∷ 63 ∷ 64 ∷ 3 ∷ 0 ∷ []) (faults s (number 3 (¬ (length o ≡ digest_length s.width)) nothing))
    (answer_of s (finish_number s (length o)))
unfolding finish_number
finish_numbers s o =
    fault_first s _ (omega arith, tt) _ (equal_row 3 (length o) (digest_length s.width) [] nothing (λ e. omega arith) no_row)

-- export: the state's fault, then 3, then 2 for a fill that isn't 0
pub export_numbers : (s : State) (o : List ℕ)
    → Asked s (60 ∷ 61 ∷ 62 ∷ 63 ∷ 64 ∷ 3 ∷ 2 ∷ 0 ∷ [])
    (faults s (number 3 (¬ (length o ≡ record_length s.width)) (number 2 (¬ (s.fill ≡ 0)) nothing)))
    (answer_of s (export_number s (length o)))
unfolding export_number
export_numbers s o =
    fault_first s _ (omega arith, (omega arith, tt)) _
    (equal_row 3 (length o) (record_length s.width) _ _ (λ e. omega arith, λ e. omega arith)
    (equal_row 2 s.fill 0 [] nothing (λ e. omega arith) no_row))
