-- `words::add_f` meets its contract: the law of a choice joins what differs between the code's operators and the definition's.
-- Assumes nothing.
use Rattle.std.proofs.Common.{ap}
use lib.Bits.{and_comm}
use Rattle.words.specs.Words.{add_of, not_of, f_of}
use Rattle.words.proofs.Digits.{choose}
use Rattle.words.proofs.add_f.Goals as goal

pub returns-in-1 : goal.returns-in-1
unfolding f_of
returns-in-1 c =
    rw c.in-1.is (ap (add_of c.args.t) (choose c.args.b c.args.c c.args.d c.ranges.b.fits c.ranges.d.fits))

pub returns-in-3 : goal.returns-in-3
unfolding f_of
returns-in-3 c =
    rw (c.in-3.is, and_comm c.args.b c.args.d, and_comm c.args.c (not_of c.args.d))
    (ap (add_of c.args.t) (choose c.args.d c.args.b c.args.c c.ranges.d.fits c.ranges.c.fits))
