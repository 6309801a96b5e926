-- `words::bytes::put` meets its contract: what is written and what is left of x are its bytes.
-- Assumes nothing.
use Rattle.std.proofs.Common.{◌≡◌, ℕ, ◌+◌, ◌++◌, take}
use Rattle.words.specs.Bytes.{bytes_of}
use Rattle.words.proofs.bytes.put.Given as goal

abbrev pub invariant-loop-j : goal.invariant-loop-j
invariant-loop-j l = (n : ℕ) → bytes_of (l.j + n) l.x ≡ take l.j l.out ++ bytes_of n l.rest
