-- `words::bytes::put_words` meets its contract: the first i words are written.
-- Assumes nothing.
use Rattle.std.proofs.Common.{◌≡◌, ◌*◌, ◌++◌, take, drop}
use Rattle.words.specs.Bytes.{word_bytes}
use Rattle.words.proofs.bytes.put_words.Given as goal

abbrev pub invariant-loop-i : goal.invariant-loop-i
invariant-loop-i l = l.out ≡ word_bytes (take l.i l.words) ++ drop (4 * l.i) l.initial.out
