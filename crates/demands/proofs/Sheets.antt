-- THE STATE SHEET. The numbers of write, exactly, as demand 1 has them of the other calls; and the place of a text that is no sheet.
-- Assumes nothing.
use Rattle.std.specs.Prelude.{ℕ, ◌≤◌, ◌≡◌, List, [], ◌∷◌, length, take}
use Rattle.std.proofs.Common.{ap, ⊎_elim, arith, ltb-false}
use Rattle.ripemd.specs.State.{answer_of}
use Rattle.ripemd.specs.declared.State.{State}
use Rattle.shape.specs.Shape.{reach}
use Rattle.sheet.specs.Sheet.{Begins, sheet_of, write_number}
use Rattle.sheet.specs.Reading.{sheet_shape, read_of}
use Rattle.sheet.specs.Answers.{Readout}
use Rattle.sheet.proofs.Answers.{read_wrong}
use Rattle.sheet.proofs.Places.{shaped_or_not, begins, longest}
use Rattle.demands.specs.Numbers.{number, nothing, no_row}
use Rattle.demands.specs.Rows.{equal_row}
use Rattle.demands.specs.Faults.{faults, Asked}
use Rattle.demands.proofs.Faults.{fault_first}
use Rattle.demands.specs.Sheets.{read_numbers}

-- ---- write: the state's fault, then 3 for an output of another length than the sheet's
pub write_numbers : (s : State) (o : List ℕ)
    → Asked s (60 ∷ 61 ∷ 62 ∷ 63 ∷ 64 ∷ 3 ∷ 0 ∷ []) (faults s (number 3 (¬ (length o ≡ length (sheet_of s))) nothing)) (answer_of s (write_number s (length o)))
unfolding write_number
write_numbers s o =
    fault_first s _ (omega arith, tt) _ (equal_row 3 (length o) (length (sheet_of s)) [] nothing (λ e. omega arith) no_row)

-- with 8 the place: so many bytes begin some text of right shape, and no longer beginning does
pub read_place : (l : List ℕ) → (read_of l).number ≡ 8
    → ((read_of l).place ≤ length l)
    × Begins (take (read_of l).place l)
    × ((n : ℕ) → n ≤ length l → Begins (take n l) → n ≤ (read_of l).place)
read_place l e =
    ⊎_elim
    (λ h. absurd (((read_numbers l).exactly.0.0 e).1 h.0))
    (λ h. let k = ltb-false (length l) (reach sheet_shape l) h.1 in
    rw (ap (λ (r : Readout). r.place) (read_wrong l h.1)) (k, begins l k, longest l))
    (shaped_or_not l)
