-- `words::bytes::get` meets its contract.
-- Assumes nothing.
use Rattle.std.proofs.Common.{◌≡◌, ◌-◌, ◌^◌, ◌<◌, length, drop}
use Rattle.words.specs.Bytes.{number_of}
use Rattle.words.proofs.bytes.get.Given as goal

abbrev pub invariant-loop-j : goal.invariant-loop-j
invariant-loop-j l = (l.x < 256 ^ (length l.s - l.j)) × (l.x ≡ number_of (drop l.j l.s))
