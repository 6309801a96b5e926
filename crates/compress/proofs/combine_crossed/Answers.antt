-- `compress::combine_crossed` meets its contract: the first i words are made.
-- Assumes nothing.
use mathlib.Core.Path.{◌≡◌, ◌∙◌}
use mathlib.Core.Logic.{⊎_elim}
use native.Mathlib.Omega.{arith}
use Rattle.tables.specs.Rule.{count_of}
use Rattle.tables.proofs.Rounds.{at_most_five}
use Rattle.compress.proofs.Words.{crossed_more, crossed_all, first_one, four_or_five}
use Rattle.compress.proofs.combine_crossed.Goals as goal

-- which places are read is proved by omega, at four registers and at five
pub loop-i-preserved : goal.loop-i-preserved
loop-i-preserved c =
    let p = c.args.p in
    let n = c.count-n.ensures in
    let five = at_most_five c.args.z in
    let size = four_or_five c.args.z in
    crossed_more
    c.count-n.result
    c.args.h
    p.left
    p.right
    c.loop-i.new
    c.loop-i.i
    _
    _
    _
    (omega arith)
    (grind (arith, first_one))
    (⊎_elim (λ (e : count_of c.args.z ≡ 4). rw (n, e) (omega arith)) (λ (e : count_of c.args.z ≡ 5). rw (n, e) (omega arith)) size)
    (⊎_elim (λ (e : count_of c.args.z ≡ 4). rw (n, e) (omega arith)) (λ (e : count_of c.args.z ≡ 5). rw (n, e) (omega arith)) size)
    c.loop-i.invariant

pub returns : goal.returns
returns c =
    let e : c.loop-i.i ≡ count_of c.args.z = omega arith in
    c.loop-i.invariant ∙ rw (c.count-n.ensures, e) (crossed_all c.args.z c.args.h c.args.p)
