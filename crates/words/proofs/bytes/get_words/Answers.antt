-- `words::bytes::get_words` meets its contract: the first i words are read.
-- Assumes nothing.
use Rattle.std.proofs.Common.{arith}
use Rattle.words.proofs.Numbers.{word_read}
use Rattle.words.proofs.bytes.get_words.Goals as goal

pub loop-i-preserved : goal.loop-i-preserved
loop-i-preserved g c =
    word_read g.row.N c.args.s.now c.loop-i.x c.loop-i.i _ c.get.result (omega arith) c.loop-i.invariant c.get.ensures.0 (omega arith)
