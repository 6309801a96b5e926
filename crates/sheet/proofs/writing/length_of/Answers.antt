-- `sheet::writing::length_of` meets its contract.
-- Assumes nothing.
use Rattle.std.proofs.Common.{ℕ, ◌≡◌, ◌∙◌, ap, List, [], length, arith}
use Rattle.text.specs.Text.{decimal_of}
use Rattle.text.proofs.Appended.{behind, appended-fits}
use Rattle.text.proofs.Numbers.{decimal_long}
use Rattle.ripemd.proofs.Well.{well}
use Rattle.sheet.proofs.Lines.{sheet_long}
use Rattle.sheet.proofs.writing.length_of.Goals as goal

pub returns : goal.returns
returns c =
    let s = c.args.s.state.now in
    let n : length c.decimal.new.self ≡ length (decimal_of s.count.0) =
    ap (λ (l : List ℕ). length l)
    (behind 20 (decimal_of s.count.0) c.decimal.ensures c.new-count.ensures
    ∙ appended-fits 20 [] (decimal_of s.count.0) (omega (arith, decimal_long s.count.0)))
    in
    omega (arith, sheet_long s c.args.s.ten c.args.s.long (well s c.args.s.sound).fill, n, c.len.ensures.0, c.used.ensures)
