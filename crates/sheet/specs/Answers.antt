-- What an answer about a sheet says in the scope's numbers, for each case of the code's enums.
use Rattle.std.specs.Prelude.{ℕ, Result, Ok, Err}
use Rattle.ripemd.specs.declared.State.{State}
use Rattle.ripemd.specs.declared.refusals.Refused.{Refused}
use Rattle.sheet.specs.declared.misread.Misread.{Misread}
use Rattle.sheet.specs.declared.misread.Misread.TheVariants.{Shape, TooMany, WrongStart}

-- what read gives: a number, the place, and the state
pub record Readout : Type 0 where
  pub number : ℕ
  pub place : ℕ
  pub state : State

-- a refusal's number
abbrev pub misread_number : Misread → ℕ
misread_number (Shape p) = 8
misread_number TooMany = 5
misread_number WrongStart = 7

-- and the place, which goes with 8 alone
abbrev pub misread_place : Misread → ℕ
misread_place (Shape p) = p
misread_place TooMany = 0
misread_place WrongStart = 0

-- the answer of read
abbrev pub read_told : Result State (Refused Misread) → Readout
read_told (Ok s) = record { number = 0; place = 0; state = s }
read_told (Err r) = record { number = misread_number r.refusal; place = misread_place r.refusal; state = r.state }
