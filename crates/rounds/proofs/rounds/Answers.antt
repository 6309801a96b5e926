-- `rounds::rounds` meets its contract.
-- Assumes nothing.
use Rattle.tables.specs.declared.Size.TheVariants.{Four, Five}
use Rattle.rounds.proofs.Engine.{all_rounds_lem}
use borrow.Author.Rules.{rules}
use Rattle.rounds.proofs.rounds.Goals as goal

pub returns-in-Four : goal.returns-in-Four
returns-in-Four g c =
    let a = c.args in
    rw (← c.size-z.ensures, c.round-d.ensures, c.round-c.ensures, c.round-b.ensures, c.round-a.ensures, c.in-Four.is)
    (all_rounds_lem Four a.exchanging a.x.now a.p (search rules) (search rules))

pub returns-in-Five : goal.returns-in-Five
returns-in-Five g c =
    let a = c.args in
    rw (← c.size-z.ensures, c.round.ensures, c.round-d.ensures, c.round-c.ensures, c.round-b.ensures, c.round-a.ensures, c.in-Five.is)
    (all_rounds_lem Five a.exchanging a.x.now a.p (search rules) (search rules))
