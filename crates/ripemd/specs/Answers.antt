-- What a call's answer says in the scope's numbers. The code answers with enums; each promise is about the number and the values that these
-- definitions give for each case.
use Rattle.std.specs.Prelude.{ℕ, Option, Some, None, Result, Ok, Err}
use Rattle.ripemd.specs.declared.State.{State}
use Rattle.ripemd.specs.declared.refusals.Fault.{Fault}
use Rattle.ripemd.specs.declared.refusals.Fault.TheVariants.{Fill, Count, Tail, Spare, Start}
use Rattle.ripemd.specs.declared.refusals.Refusal.{Refusal}
use Rattle.ripemd.specs.declared.refusals.Refusal.TheVariants.{Faulty, TooLong, MidBlock, OutputLength, RecordLength, TooMany, WrongStart}
use Rattle.ripemd.specs.declared.refusals.Refused.{Refused}

-- a number, 0 where the call is done, and the index that goes with it
pub record Answer : Type 0 where
  pub number : ℕ
  pub index : ℕ

-- what feed gives: a number, the state after it, the index
pub record Fed : Type 0 where
  pub number : ℕ
  pub state : State
  pub index : ℕ

-- what import gives
pub record Imported : Type 0 where
  pub number : ℕ
  pub state : State

-- a number without an index
abbrev pub plain : ℕ → Answer
plain n = record { number = n; index = 0 }

-- a fault's number, and the index of the byte or of the word at fault
abbrev pub of_fault : Fault → Answer
of_fault Fill = plain 60
of_fault Count = plain 61
of_fault (Tail i) = record { number = 62; index = i }
of_fault (Spare i) = record { number = 63; index = i }
of_fault Start = plain 64

-- a refusal's number and index
abbrev pub of_refusal : Refusal → Answer
of_refusal (Faulty f) = of_fault f
of_refusal TooLong = plain 1
of_refusal MidBlock = plain 2
of_refusal OutputLength = plain 3
of_refusal RecordLength = plain 4
of_refusal TooMany = plain 5
of_refusal WrongStart = plain 7

-- the answer of fault
abbrev pub of_found : Option Fault → Answer
of_found None = plain 0
of_found (Some f) = of_fault f

-- the answer of finish, export and one_shot
abbrev pub told : Result Unit Refusal → Answer
told (Ok _) = plain 0
told (Err r) = of_refusal r

-- the answer of feed and import
abbrev pub fed : Result State (Refused Refusal) → Fed
fed (Ok s) = record { number = 0; state = s; index = 0 }
fed (Err r) = record { number = (of_refusal r.refusal).number; state = r.state; index = (of_refusal r.refusal).index }

-- the answer of import, in which no index goes with a number
abbrev pub unindexed : Imported → Fed
unindexed i = record { number = i.number; state = i.state; index = 0 }
