-- `compress::is_initial` meets its contract: what the comparison gives is whether the words are the same.
-- Assumes nothing.
use mathlib.Core.Path.{◌≡◌}
use Rattle.words.specs.Words.{same_of}
use Rattle.words.proofs.Runs.{same_pointwise}
use Rattle.compress.specs.Block.{initial_of}
use Rattle.compress.proofs.is_initial.Goals as goal

pub returns : goal.returns
returns c =
    let same : c.eq.result ≡ same_of c.args.h.now (initial_of c.args.w) = rw (c.eq.ensures, c.initial.ensures) (same_pointwise c.args.h.now _) in
    same
