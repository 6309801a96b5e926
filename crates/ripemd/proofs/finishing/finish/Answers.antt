use Rattle.std.proofs.Common.{ap, sym, ◌∙◌}
use Rattle.std.proofs.lemmas.Result.{err_from_is_err_and}
use Rattle.ripemd.specs.Finish.{digest_of}
use Rattle.ripemd.specs.State.{fault_of}
use Rattle.ripemd.proofs.Answered.{finish_faulty, finish_other, finish_done}
use Rattle.ripemd.proofs.finishing.finish.Goals as goal

pub returns-in_err-s : goal.returns-in_err-s
returns-in_err-s c =
    let p = err_from_is_err_and c.from_residual.result c.from_residual.ensures.1 in
    rw (p.1, p.2) (finish_faulty c.args.s _ c.in_err-s.ensures c.args.out.now)

pub returns-then-out-used : goal.returns-then-out-used
returns-then-out-used c =
    let e = c.in_ok-s.ensures in
    finish_other c.args.s (ap fault_of (sym e) ∙ c.in_ok-s.s.sound) c.args.out.now (λ q. c.if-out-used.true (rw (c.used.ensures, e) q))

pub returns : goal.returns
returns c =
    let e = c.in_ok-s.ensures in
    let d = finish_done c.args.s (ap fault_of (sym e) ∙ c.in_ok-s.s.sound) c.args.out.now (rw (sym e, sym c.used.ensures) c.if-out-used.false) in
    (d.0, c.put_digest.ensures ∙ ap digest_of e ∙ d.1)
