-- NO OTHER NUMBER: what each call may give, in its order, and then 0, done. fresh, reset and sheet_length give no number.
-- Assumes nothing.
use Rattle.std.specs.Prelude.{List, [], ◌∷◌, ℕ, length}
use Rattle.compress.specs.declared.Width.{Width}
use Rattle.ripemd.specs.State.{fault_of}
use Rattle.ripemd.specs.Feed.{feed_of}
use Rattle.ripemd.specs.Finish.{finish_number, one_shot_number}
use Rattle.ripemd.specs.Record.{export_number, import_of}
use Rattle.ripemd.specs.declared.State.{State}
use Rattle.sheet.specs.Sheet.{write_number}
use Rattle.sheet.specs.Reading.{read_of}
use Rattle.demands.specs.Numbers.{OneOf}
use Rattle.demands.proofs.Faults.{fault_numbers}
use Rattle.demands.specs.Demand1.{import_numbers, one_shot_numbers}
use Rattle.demands.proofs.Demand1.{feed_numbers, finish_numbers, export_numbers}
use Rattle.demands.specs.Sheets.{read_numbers}
use Rattle.demands.proofs.Sheets.{write_numbers}

-- fault, feed, finish, export, import, one_shot, write and read
pub only_these : (s : State) (w : Width) (m o : List ℕ)
    → OneOf (fault_of s) (60 ∷ 61 ∷ 62 ∷ 63 ∷ 64 ∷ 0 ∷ [])
    × OneOf (feed_of s m).number (60 ∷ 61 ∷ 62 ∷ 63 ∷ 64 ∷ 1 ∷ 0 ∷ [])
    × OneOf (finish_number s (length o)) (60 ∷ 61 ∷ 62 ∷ 63 ∷ 64 ∷ 3 ∷ 0 ∷ [])
    × OneOf (export_number s (length o)) (60 ∷ 61 ∷ 62 ∷ 63 ∷ 64 ∷ 3 ∷ 2 ∷ 0 ∷ [])
    × OneOf (import_of w m).number (4 ∷ 5 ∷ 7 ∷ 0 ∷ [])
    × OneOf (one_shot_number w (length m) (length o)) (3 ∷ 1 ∷ 0 ∷ [])
    × OneOf (write_number s (length o)) (60 ∷ 61 ∷ 62 ∷ 63 ∷ 64 ∷ 3 ∷ 0 ∷ [])
    × OneOf (read_of m).number (8 ∷ 5 ∷ 7 ∷ 0 ∷ [])
only_these s w m o = (
  (fault_numbers s).numbers.only,
  (feed_numbers s m).numbers.only,
  (finish_numbers s o).numbers.only,
  (export_numbers s o).numbers.only,
  (import_numbers w m).only,
  (one_shot_numbers w m o).only,
  (write_numbers s o).numbers.only,
  (read_numbers m).only,
)
