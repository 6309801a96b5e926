use Rattle.std.proofs.Common.{rules, sym, ◌≡◌, Ok}
use Rattle.rmd160.proofs.Turns.{ended, went_on}
use Rattle.rmd160.proofs.after_read.Goals as goal

pub returns : goal.returns
returns c =
    let e : c.args.got ≡ Ok c.in_ok-n.n = search rules in
    rw e (sym (went_on c.args.s c.in_ok-n.n c.args.buffer.now c.in_ok-feed.field-0 (search rules) (search rules)))

pub returns-then-is_empty : goal.returns-then-is_empty
returns-then-is_empty c =
    let e : c.args.got ≡ Ok c.in_ok-n.n = search rules in
    rw e (sym (ended c.args.s c.in_ok-n.n c.args.buffer.now (search rules)))
