-- An answer in the scope's numbers tells which of the code's cases it is.
use Rattle.std.proofs.Common.{ℕ, ◌≡◌, refl, ap, sym, ◌∙◌, cond, eqb, Result, Ok, Err}
use Rattle.ripemd.specs.declared.State.{State}
use Rattle.ripemd.specs.declared.refusals.Refused.{Refused}
use Rattle.sheet.specs.Answers.{Readout, read_told}
use Rattle.sheet.specs.declared.misread.Misread.{Misread}
use Rattle.sheet.specs.declared.misread.Misread.TheVariants.{Shape, TooMany, WrongStart}

-- the refusal of a number and a place, and what read gave
abbrev misread_at : ℕ → ℕ → Misread
misread_at n p = cond (eqb n 8) (Shape p) (cond (eqb n 5) TooMany WrongStart)

abbrev read_at : Readout → Result State (Refused Misread)
read_at r = cond (eqb r.number 0) (Ok r.state) (Err record { refusal = misread_at r.number r.place; state = r.state })

misread_back : (m : Misread) (s : State) → read_at (read_told (Err record { refusal = m; state = s })) ≡ Err record { refusal = m; state = s }
misread_back (Shape p) s = refl
misread_back TooMany s = refl
misread_back WrongStart s = refl

read_back : (x : Result State (Refused Misread)) → read_at (read_told x) ≡ x
read_back (Ok s) = refl
read_back (Err r) = misread_back r.refusal r.state

pub read_settles : (x y : Result State (Refused Misread)) → read_told x ≡ read_told y → x ≡ y
read_settles x y e = sym (read_back x) ∙ ap read_at e ∙ read_back y
