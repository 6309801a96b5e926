-- `text::put_hex` meets its contract: the digits of the first i bytes are written.
-- Assumes nothing.
use Rattle.std.proofs.Common.{◌*◌, ◌+◌, ap, ◌∙◌, ℕ, List, set, arith}
use Rattle.text.proofs.Halves.{hex_more}
use Rattle.text.proofs.put_hex.Goals as goal

pub loop-i-preserved : goal.loop-i-preserved
loop-i-preserved c =
    let i = c.loop-i.i in
    let h = c.hex_digit.result in
    let l = c.hex_digit-in-loop-i.result in
    ap (λ (o : List ℕ). set (set o (2 * i) h) (2 * i + 1) l) c.loop-i.invariant
    ∙ hex_more c.args.bytes.now c.args.room.now i (omega arith) (omega (arith, c.requires)) h l c.hex_digit.ensures c.hex_digit-in-loop-i.ensures
