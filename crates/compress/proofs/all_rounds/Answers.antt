-- `compress::all_rounds` meets its contract, by the law `whole`.
-- Assumes nothing.
use mathlib.Core.Bool.{true, false}
use Rattle.compress.proofs.Engine.{whole_from}
use Rattle.compress.proofs.all_rounds.Goals as goal

pub returns-then-exchanging : goal.returns-then-exchanging
returns-then-exchanging g c =
    rw (c.combine_own.ensures, c.rounds-q.ensures, c.start-p.ensures, c.size-z.ensures, c.if-exchanging.true) (whole_from _ true c.args.h c.args.x.now)

pub returns-else-exchanging : goal.returns-else-exchanging
returns-else-exchanging g c =
    rw (c.combine_crossed.ensures, c.rounds-q.ensures, c.start-p.ensures, c.size-z.ensures, c.if-exchanging.false) (whole_from _ false c.args.h c.args.x.now)
