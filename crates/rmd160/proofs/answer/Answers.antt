use Rattle.rmd160.proofs.Taken.{sound, written, whole}
use Rattle.rmd160.proofs.answer.Goals as goal

pub written-requires : goal.written-requires
written-requires g c =
    let h = c.read_all.ensures in
    sound h.message h.piece _ c.read_all.result h.ended

pub returns : goal.returns
returns g c =
    let r = c.read_all.result in
    let h = c.read_all.ensures in
    rw c.written.ensures
    record {
      outcome = r;
      heard = h;
      is = written h.message h.piece _ r h.ended;
      whole = whole h.message h.piece _ _ r h.read h.ended;
    }
