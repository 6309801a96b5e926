use Rattle.std.proofs.Common.{ap, sym, ◌∙◌, length}
use Rattle.ripemd.specs.Answers.{Answer}
use Rattle.ripemd.specs.State.{fault_of}
use Rattle.ripemd.specs.declared.State.{State}
use Rattle.ripemd.proofs.Answered.{fault_numbered}
use Rattle.ripemd.proofs.Outcomes.{refused}
use Rattle.sheet.specs.Sheet.{sheet_of, length_of}
use Rattle.sheet.proofs.Written.{length_is}
use Rattle.sheet.proofs.writing.sheet_length.Goals as goal

pub returns-in-Ok : goal.returns-in-Ok
returns-in-Ok c =
    let e = c.in-Ok.ensures in
    c.length_of.ensures ∙ ap (λ (s : State). length (sheet_of s)) e
    ∙ sym (length_is c.args.s (ap fault_of (sym e) ∙ c.in-Ok.s.sound))

pub returns-in-Err : goal.returns-in-Err
unfolding length_of
returns-in-Err c = sym (refused _ _ 0 (λ q. fault_numbered _ (ap (λ (a : Answer). a.number) c.in-Err.ensures ∙ q)))
