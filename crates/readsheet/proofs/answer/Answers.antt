use Rattle.readsheet.proofs.Whole.{answers, whole}
use Rattle.readsheet.proofs.answer.Goals as goal

pub returns : goal.returns
returns g c =
    let r = c.read_all.result in
    let h = c.read_all.ensures in
    rw c.written.ensures record { outcome = r; heard = h; is = answers _ _ r h; whole = whole _ _ r h }
