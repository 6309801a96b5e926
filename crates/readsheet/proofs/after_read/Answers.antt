use Rattle.std.proofs.Common.{rules, arith, ◌≡◌, ◌<◌, ◌∙◌, ap, sym, Ok, length, take}
use Rattle.text.specs.Text.{appended}
use Rattle.readsheet.specs.Reading.{keep_of}
use Rattle.readsheet.proofs.Kept.{kept_fits, gave_none, gave_some}
use Rattle.readsheet.proofs.after_read.Goals as goal

pub returns-then-is_empty : goal.returns-then-is_empty
returns-then-is_empty c =
    let e : c.args.got ≡ Ok c.in_ok-n.n = search rules in
    let h : length (take c.in_ok-n.n c.args.buffer.now) ≡ 0 = search rules in
    let g = gave_none c.in_ok-n.n c.args.kept.now c.args.buffer.now h in
    rw e (sym g.0, sym g.1)

pub returns : goal.returns
unfolding keep_of
returns c =
    let k = c.args.kept.now in
    let e : c.args.got ≡ Ok c.in_ok-n.n = search rules in
    let h : 0 < length (take c.in_ok-n.n c.args.buffer.now) = search rules in
    let p = c.first-piece.ensures in
    rw e (
      sym (gave_some c.in_ok-n.n c.args.buffer.now h),
      c.bytes.ensures
          ∙ ap (appended 256 k) (rw (← c.len.ensures.0, ← p) c.first.ensures)
          ∙ kept_fits k (take c.in_ok-n.n c.args.buffer.now) (omega (arith, c.len.ensures.0, c.len.ensures.1)),
    )
