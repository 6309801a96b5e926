-- `compress::combine_own` meets its contract: the first i words of each line are made.
-- Assumes nothing.
use mathlib.Core.Path.{◌≡◌, ◌∙◌}
use native.Mathlib.Omega.{arith}
use Rattle.tables.specs.Rule.{count_of}
use Rattle.tables.proofs.Rounds.{at_most_five}
use Rattle.compress.proofs.Words.{sums_more, sums_all}
use Rattle.compress.proofs.combine_own.Goals as goal

-- which word the right line's register is added to is proved by omega
pub loop-i-preserved : goal.loop-i-preserved
loop-i-preserved c =
    let p = c.args.p in
    let five = at_most_five c.args.z in
    sums_more c.count-n.result c.args.h p.left p.right c.loop-i.new c.loop-i.i _ (omega arith) (omega arith) (omega arith) c.loop-i.invariant

pub returns : goal.returns
returns c =
    let e : c.loop-i.i ≡ count_of c.args.z = omega arith in
    c.loop-i.invariant ∙ rw (c.count-n.ensures, e) (sums_all c.args.z c.args.h c.args.p)
