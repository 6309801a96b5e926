-- `compress::start` meets its contract.
-- Assumes nothing.
use Rattle.lines.specs.Places.{placed_pair, placed}
use Rattle.rounds.specs.Engine.{places_of}
use Rattle.compress.proofs.start.Goals as goal

pub returns-then-exchanging : goal.returns-then-exchanging
unfolding places_of placed_pair placed
returns-then-exchanging c = rw (c.in-Four.is, c.if-exchanging.true)

pub returns-else-exchanging : goal.returns-else-exchanging
unfolding places_of placed_pair placed
returns-else-exchanging c = rw (c.in-Four.is, c.if-exchanging.false)

pub returns-then-exchanging-2 : goal.returns-then-exchanging-2
unfolding places_of placed_pair placed
returns-then-exchanging-2 c = rw (c.in-Five.is, c.if-exchanging-2.true)

pub returns-else-exchanging-2 : goal.returns-else-exchanging-2
unfolding places_of placed_pair placed
returns-else-exchanging-2 c = rw (c.in-Five.is, c.if-exchanging-2.false)
