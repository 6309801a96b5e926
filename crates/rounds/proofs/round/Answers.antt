-- `rounds::round` meets its contract: twice eight steps are sixteen, and the place exchanged after them is the round's own.
-- Assumes nothing.
use mathlib.Core.Path.{◌≡◌}
use Prim.Native.Nat.{◌+◌, ◌-◌, ◌*◌}
use native.Mathlib.Omega.{arith}
use Rattle.tables.proofs.Rounds.{at_most_five}
use Rattle.lines.proofs.Pairs.{sixteen}
use Rattle.rounds.proofs.Engine.{at_least_four, own_place}
use Rattle.rounds.proofs.round.Goals as goal

pub returns : goal.returns
returns c =
    let a = c.args in
    let four = at_least_four a.z in
    let five = at_most_five a.z in
    let e : 16 * a.n + 8 - 16 * a.n ≡ 8 = omega arith in
    let f : 16 * a.n + 16 - (16 * a.n + 8) ≡ 8 = omega arith in
    own_place a.exchanging a.n _ _ _ _ c.exchange_after.ensures (omega arith) (rw (c.walk-b.ensures, c.walk-a.ensures, e, f, sixteen a.z (16 * a.n) a.x.now a.p))
