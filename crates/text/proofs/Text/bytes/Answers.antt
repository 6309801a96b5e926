-- `text::Text::bytes` meets its contract: what is copied is the whole text, to right behind the one before it.
-- Assumes nothing.
use Rattle.std.proofs.Common.{rules, refl, arith, ◌≡◌, ◌≤◌, ◌+◌, ◌-◌, length, length-take-le}
use Rattle.text.proofs.Appended.{appended-full, laid, from_the_start}
use Rattle.text.proofs.Zeros.{long_put, zeros_put}
use Rattle.text.proofs.Text.bytes.Goals as goal

pub returns-then-self-text : goal.returns-then-self-text
returns-then-self-text g c = grind (arith, appended-full, length-take-le)

pub returns : goal.returns
returns g c =
    let t = c.self.inside in
    laid
    g.row.N
    t.bytes
    c.args.self.now
    c.args.text.now
    c.copy_from_slice.new.self
    _
    t.len
    _
    _
    refl
    c.self.told
    (omega arith)
    c.self.view_is
    (omega arith)
    (grind (arith, c.copy_from_slice.ensures.after, from_the_start))

pub invariant_of-self : goal.invariant_of-self
invariant_of-self g c =
    let t = c.self.inside in
    let h = c.self.invariant in
    let n = length c.args.text.now in
    let k : t.len + n - t.len ≡ n = omega arith in
    let e : length c.copy_from_slice.new.self ≡ n = search rules in
    let room : t.len + n ≤ g.row.N = omega arith in
    rw k (room, long_put g.row.N t.len t.bytes h.0 h.1 h.2 c.copy_from_slice.new.self n e room, zeros_put g.row.N t.len t.bytes h.0 h.1 h.2 c.copy_from_slice.new.self n e room)
