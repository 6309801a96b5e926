-- The rounds of both lines, after the paper and the designers' pages: sixteen steps each, and between the lines of RIPEMD-256 and RIPEMD-320
-- an exchange after each round.
-- Assumes nothing.
use Rattle.std.specs.Prelude.{Bool, true, false, List, ℕ, zero, suc, ◌*◌}
use Rattle.tables.specs.declared.Size.{Size}
use Rattle.lines.specs.Steps.{Pair, pair_steps, exchange_of}

-- what follows round n, counted from 0, of lines that exchange registers or don't
abbrev pub after_round : Size → Bool → ℕ → Pair → Pair
after_round z true n q = exchange_of z n q
after_round z false n q = q

-- n rounds on the message words x
unfoldable pub rounds_of : Size → Bool → List ℕ → ℕ → Pair → Pair
rounds_of z e x zero q = q
rounds_of z e x (suc n) q = after_round z e n (pair_steps z x (16 * n) 16 (rounds_of z e x n q))
