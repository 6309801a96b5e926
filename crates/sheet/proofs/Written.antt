-- What writing gives a state with no fault.
-- Assumes nothing.
use Prim.Native.Nat.{ℕ}
use mathlib.Core.Path.{◌≡◌}
use borrow.Author.Tests.{eq-eqb}
use lib.ListN.{length}
use Rattle.ripemd.specs.State.{fault_of}
use Rattle.ripemd.specs.declared.State.{State}
use Rattle.ripemd.proofs.Outcomes.{accepted}
use Rattle.sheet.specs.Sheet.{sheet_of, length_of, write_number}

module _ (s : State) where
  pub write_right : fault_of s ≡ 0 → (n : ℕ) → n ≡ length (sheet_of s) → write_number s n ≡ 0
  unfolding write_number
  write_right z n e = rw (z, eq-eqb n (length (sheet_of s)) e)

  pub length_is : fault_of s ≡ 0 → length_of s ≡ length (sheet_of s)
  unfolding length_of
  length_is z = accepted (fault_of s) (length (sheet_of s)) 0 z
