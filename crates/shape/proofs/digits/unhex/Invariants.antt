-- `shape::digits::unhex` meets its contract.
-- Assumes nothing.
use Rattle.std.specs.Slice.Iter.{chunks_exact_rest, chunks_exact_size}
use mathlib.Core.Path.{◌≡◌}
use Rattle.shape.proofs.Loops.{Unhexed}
use Rattle.shape.proofs.digits.unhex.Given as goal

abbrev pub invariant-loop-j : goal.invariant-loop-j
invariant-loop-j l =
    (chunks_exact_size l.j-iterator.iter ≡ 2)
    × Unhexed l.s l.initial.out l.out (chunks_exact_rest l.j-iterator.iter) l.j-iterator.count
