-- What is kept is what was read so far, and is longer after each turn.
use Rattle.std.proofs.Common.{◌-◌, ◌≤◌, length}
use Rattle.std.specs.Io.KnownBytes.{Consumes}
use Rattle.readsheet.proofs.read_all.Given as goal

abbrev pub invariant-loop-buffer : goal.invariant-loop-buffer
invariant-loop-buffer g l = (length l.kept ≤ 256) × Consumes (g.R.Read.remaining l.fn.input) (g.R.Read.remaining l.input) l.kept

abbrev pub decreases-loop-buffer : goal.decreases-loop-buffer
decreases-loop-buffer g l = 256 - length l.kept
