-- `words::bytes::get_words` meets its contract: the first i words are read.
-- Assumes nothing.
use Rattle.std.proofs.Common.{◌≡◌, ◌-◌, ◌++◌, replicate}
use Rattle.words.specs.Bytes.{words_of}
use Rattle.words.proofs.bytes.get_words.Given as goal

abbrev pub invariant-loop-i : goal.invariant-loop-i
invariant-loop-i g l = l.x ≡ words_of l.i l.s ++ replicate (g.row.N - l.i) 0
