use Rattle.std.proofs.Common.{rules, arith}
use Rattle.std.proofs.lemmas.Result.{err_from_is_err_and}
use Rattle.rmd160.proofs.Taken.{taken, went_on, stopped, done}
use Rattle.rmd160.proofs.read_all.Goals as goal

pub returns-in_err-next : goal.returns-in_err-next
returns-in_err-next g c =
    let p = err_from_is_err_and c.from_residual.result c.from_residual.ensures.1 in
    rw (p.1, p.2) (stopped _ _ _ _ c.loop-next.invariant c.read-got.new.buf (search rules) c.read-got.result c.read-got.ensures.bytes _ c.in_err-next.ensures)

pub loop-next-smaller : goal.loop-next-smaller
loop-next-smaller g c =
    let h = went_on _ _ _ _ c.loop-next.invariant c.read-got.new.buf (search rules) c.read-got.result c.read-got.ensures.bytes c.in-Some.next (search rules) in
    omega (arith, h.1, h.0.took.short, taken h.0.message c.in-Some.next h.0.took)

pub loop-next-preserved : goal.loop-next-preserved
loop-next-preserved g c =
    (went_on _ _ _ _ c.loop-next.invariant c.read-got.new.buf (search rules) c.read-got.result c.read-got.ensures.bytes _ (search rules)).0

pub returns-in-None : goal.returns-in-None
returns-in-None g c = done _ _ _ _ c.loop-next.invariant c.read-got.new.buf (search rules) c.read-got.result c.read-got.ensures.bytes (search rules)
