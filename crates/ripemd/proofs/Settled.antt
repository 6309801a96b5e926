-- An answer in the scope's numbers tells which of the code's cases it is.
use Rattle.std.proofs.Common.{ℕ, ◌≡◌, refl, ap, sym, ◌∙◌, cond, eqb, Option, Some, None, Result, Ok, Err}
use Rattle.ripemd.specs.Answers.{Answer, Fed, of_fault, of_refusal, of_found, told, fed}
use Rattle.ripemd.specs.declared.State.{State}
use Rattle.ripemd.specs.declared.refusals.Fault.{Fault}
use Rattle.ripemd.specs.declared.refusals.Fault.TheVariants.{Fill, Count, Tail, Spare, Start}
use Rattle.ripemd.specs.declared.refusals.Refusal.{Refusal}
use Rattle.ripemd.specs.declared.refusals.Refusal.TheVariants.{Faulty, TooLong, MidBlock, OutputLength, RecordLength, TooMany, WrongStart}
use Rattle.ripemd.specs.declared.refusals.Refused.{Refused}

-- the fault and the refusal of a number and an index
abbrev fault_at : ℕ → ℕ → Fault
fault_at n i = cond (eqb n 60) Fill (cond (eqb n 61) Count (cond (eqb n 62) (Tail i) (cond (eqb n 63) (Spare i) Start)))

abbrev refusal_at : ℕ → ℕ → Refusal
refusal_at n i =
    cond (eqb n 1) TooLong (cond (eqb n 2) MidBlock (cond (eqb n 3) OutputLength (cond (eqb n 4) RecordLength (cond (eqb n 5) TooMany (cond (eqb n 7) WrongStart
    (Faulty (fault_at n i)))))))

abbrev found_at : Answer → Option Fault
found_at a = cond (eqb a.number 0) None (Some (fault_at a.number a.index))

abbrev told_at : Answer → Result Unit Refusal
told_at a = cond (eqb a.number 0) (Ok tt) (Err (refusal_at a.number a.index))

abbrev fed_at : Fed → Result State (Refused Refusal)
fed_at f = cond (eqb f.number 0) (Ok f.state) (Err record { refusal = refusal_at f.number f.index; state = f.state })

fault_back : (f : Fault) → found_at (of_fault f) ≡ Some f
fault_back Fill = refl
fault_back Count = refl
fault_back (Tail i) = refl
fault_back (Spare i) = refl
fault_back Start = refl

refusal_back : (r : Refusal) → told_at (of_refusal r) ≡ Err r
refusal_back (Faulty Fill) = refl
refusal_back (Faulty Count) = refl
refusal_back (Faulty (Tail i)) = refl
refusal_back (Faulty (Spare i)) = refl
refusal_back (Faulty Start) = refl
refusal_back TooLong = refl
refusal_back MidBlock = refl
refusal_back OutputLength = refl
refusal_back RecordLength = refl
refusal_back TooMany = refl
refusal_back WrongStart = refl

found_back : (x : Option Fault) → found_at (of_found x) ≡ x
found_back None = refl
found_back (Some f) = fault_back f

told_back : (x : Result Unit Refusal) → told_at (told x) ≡ x
told_back (Ok u) = refl
told_back (Err r) = refusal_back r

refused_back : (r : Refusal) (s : State) → fed_at (fed (Err record { refusal = r; state = s })) ≡ Err record { refusal = r; state = s }
refused_back (Faulty Fill) s = refl
refused_back (Faulty Count) s = refl
refused_back (Faulty (Tail i)) s = refl
refused_back (Faulty (Spare i)) s = refl
refused_back (Faulty Start) s = refl
refused_back TooLong s = refl
refused_back MidBlock s = refl
refused_back OutputLength s = refl
refused_back RecordLength s = refl
refused_back TooMany s = refl
refused_back WrongStart s = refl

fed_back : (x : Result State (Refused Refusal)) → fed_at (fed x) ≡ x
fed_back (Ok s) = refl
fed_back (Err r) = refused_back r.refusal r.state

fault_same : (f : Fault) → fault_at (of_fault f).number (of_fault f).index ≡ f
fault_same Fill = refl
fault_same Count = refl
fault_same (Tail i) = refl
fault_same (Spare i) = refl
fault_same Start = refl

pub faults_settle : (f g : Fault) → of_fault f ≡ of_fault g → f ≡ g
faults_settle f g e = sym (fault_same f) ∙ ap (λ (a : Answer). fault_at a.number a.index) e ∙ fault_same g

pub found_settles : (x y : Option Fault) → of_found x ≡ of_found y → x ≡ y
found_settles x y e = sym (found_back x) ∙ ap found_at e ∙ found_back y

pub told_settles : (x y : Result Unit Refusal) → told x ≡ told y → x ≡ y
told_settles x y e = sym (told_back x) ∙ ap told_at e ∙ told_back y

pub fed_settles : (x y : Result State (Refused Refusal)) → fed x ≡ fed y → x ≡ y
fed_settles x y e = sym (fed_back x) ∙ ap fed_at e ∙ fed_back y
