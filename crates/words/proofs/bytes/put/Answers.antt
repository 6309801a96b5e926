-- `words::bytes::put` meets its contract: what is written and what is left of x are its bytes.
-- Assumes nothing.
use Rattle.std.proofs.Common.{◌≡◌, ℕ, ◌+◌, length, take, sym, ap, ◌∙◌, append-nil, arith, take_all}
use Rattle.words.specs.Bytes.{bytes_of}
use Rattle.words.proofs.Numbers.{byte_more}
use Rattle.words.proofs.bytes.put.Goals as goal

-- where the byte is written is an argument, and omega proves that it is place j
pub loop-j-preserved : goal.loop-j-preserved
loop-j-preserved c = byte_more c.loop-j.out c.args.x c.loop-j.j _ c.loop-j.rest (omega arith) (omega arith) c.loop-j.invariant

pub returns : goal.returns
returns c =
    let l = c.loop-j in
    let e : l.j ≡ length l.out = omega arith in
    let f : l.j + 0 ≡ length c.args.out.now = omega arith in
    sym (ap (λ (n : ℕ). bytes_of n c.args.x) (sym f) ∙ l.invariant 0 ∙ append-nil (take l.j l.out) ∙ take_all l.j l.out (omega arith))
