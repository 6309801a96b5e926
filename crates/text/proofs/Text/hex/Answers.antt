-- `text::Text::hex` meets its contract.
-- Assumes nothing.
use Rattle.std.proofs.Common.{arith, ◌≡◌, ap, ◌∙◌, ℕ, List, ◌≤◌, ◌+◌, ◌-◌, ◌*◌, length, length-take-le}
use Rattle.std.proofs.lemmas.Slice.{take-put_mid}
use Rattle.text.proofs.Appended.{appended-fits, appended-full}
use Rattle.text.proofs.Halves.{length_hex}
use Rattle.text.proofs.Zeros.{long_put, zeros_put}
use Rattle.text.proofs.Text.hex.Goals as goal

pub returns-then-self-bytes : goal.returns-then-self-bytes
returns-then-self-bytes g c = grind (arith, appended-full, length-take-le, length_hex)

pub returns : goal.returns
returns g c = grind (arith, appended-fits, take-put_mid, length-take-le, length_hex)

pub invariant_of-self : goal.invariant_of-self
invariant_of-self g c =
    let t = c.self.inside in
    let h = c.self.invariant in
    let n = 2 * length c.args.bytes.now in
    let k : t.len + n - t.len ≡ n = omega arith in
    let e : length c.put_hex.new.room ≡ n = ap (λ (l : List ℕ). length l) c.put_hex.ensures ∙ length_hex c.args.bytes.now in
    let room : t.len + n ≤ g.row.N = omega arith in
    rw k (room, long_put g.row.N t.len t.bytes h.0 h.1 h.2 c.put_hex.new.room n e room, zeros_put g.row.N t.len t.bytes h.0 h.1 h.2 c.put_hex.new.room n e room)
