-- `text::digits` meets its contract.
-- Assumes nothing.
use Prim.Native.Nat.{suc, ◌≤◌, ◌<◌, ◌^◌}
use mathlib.Core.Path.{◌≡◌}
use mathlib.Core.List.{◌++◌}
use lib.ListN.{length, drop}
use Rattle.text.specs.Text.{decimal_of, digits_of}
use Rattle.text.proofs.digits.Given as goal

abbrev pub invariant-loop-rest : goal.invariant-loop-rest
invariant-loop-rest l =
    (l.first ≤ 19) × (length l.room ≡ 20) × (l.rest < 10 ^ suc l.first) × (digits_of (suc l.first) l.rest ++ drop (suc l.first) l.room ≡ decimal_of l.x)

abbrev pub decreases-loop-rest : goal.decreases-loop-rest
decreases-loop-rest l = l.first
