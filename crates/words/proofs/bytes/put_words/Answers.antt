-- `words::bytes::put_words` meets its contract: the first i words are written.
-- Assumes nothing.
use Rattle.std.proofs.Common.{◌≡◌, ◌+◌, ◌-◌, ◌*◌, length, take, drop, arith, length-take, length-drop}
use Rattle.words.proofs.Numbers.{words_put}
use Rattle.words.proofs.bytes.put_words.Goals as goal

pub loop-i-preserved : goal.loop-i-preserved
loop-i-preserved c =
    let i = c.loop-i.i in
    let ws = c.args.words.now in
    let k : 4 * i + 4 - 4 * i ≡ 4 = omega arith in
    let four : length (take (4 * i + 4 - 4 * i) (drop (4 * i) c.loop-i.out)) ≡ 4 = simp (length-take, length-drop) (omega arith) in
    words_put c.loop-i.out ws c.args.out.now c.put.new.out i _ (omega arith) (omega arith) c.loop-i.invariant (rw four at c.put.ensures) k
