use Rattle.sheet.proofs.Answers.{start_held}
use Rattle.sheet.proofs.reading.held.Goals as goal

pub returns-in_default-fault : goal.returns-in_default-fault
returns-in_default-fault c =
    let r = c.refused-in_default-fault.ensures in
    rw (r.0, r.1) (start_held c.args.s c.requires c.in-Some.fault c.in_default-fault.not-Count c.in-Some.ensures)
