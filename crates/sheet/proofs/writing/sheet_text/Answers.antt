-- `sheet::writing::sheet_text` meets its contract.
-- Assumes nothing.
use Prim.Native.Nat.{ℕ, ◌*◌}
use mathlib.Core.Path.{◌≡◌, ap, sym, ◌∙◌}
use mathlib.Core.List.{[]}
use native.Mathlib.Omega.{arith}
use lib.ListN.{length, take, drop, replicate}
use lib.Seq.{take_at, length-take-le}
use Rattle.words.specs.Bytes.{word_bytes}
use Rattle.compress.proofs.Kept.{used_le}
use Rattle.ripemd.proofs.Recorded.{used_bytes}
use Rattle.text.proofs.Appended.{in_turn, in_turn-all}
use Rattle.sheet.specs.Sheet.{words_shown}
use Rattle.sheet.proofs.Lines.{sheet_fits, sheet_is, sheet_parts}
use Rattle.sheet.proofs.writing.sheet_text.Goals as goal

pub returns : goal.returns
returns c =
    let s = c.args.s.state.now in
    let u = c.used-used.result in
    let lb = used_bytes s.words u (omega (arith, c.used-used.ensures, used_le s.width)) c.args.s.ten in
    let lu : length (take u s.words) ≡ u = length-take-le u s.words (omega (arith, c.args.s.ten, c.used-used.ensures, used_le s.width)) in
    let shown : take (4 * u) c.put_words.new.out ≡ words_shown s =
    ap (take (4 * u)) (rw lu at c.put_words.ensures)
    ∙ take_at (word_bytes (take u s.words)) (drop (4 * u) (replicate 40 0)) (4 * u) lb
    ∙ ap (λ (n : ℕ). word_bytes (take n s.words)) c.used-used.ensures
    in
    let put : c.bytes-4.new.self ≡ in_turn 254 [] (sheet_parts s) = cc shown in
    put ∙ in_turn-all 254 (sheet_parts s) (rw (← sheet_is s) (sheet_fits s c.args.s.sound c.args.s.ten c.args.s.long)) ∙ sym (sheet_is s)
