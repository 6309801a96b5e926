-- `readsheet::output::held` meets its contract.
-- Assumes nothing.
use mathlib.Core.Path.{◌≡◌, ◌∙◌}
use mathlib.Core.List.{[], ◌∷◌, append_assoc}
use Rattle.std.proofs.Common.{rules, length}
use native.Mathlib.Omega.{arith}
use lib.ListN.{length-append}
use Rattle.ripemd.specs.State.{taken_of}
use Rattle.text.specs.Text.{ascii, decimal_of}
use Rattle.text.proofs.Numbers.{decimal_long}
use Rattle.text.proofs.Appended.{in_turn, in_turn-all}
use Rattle.sheet.specs.Sheet.{name_of}
use Rattle.readsheet.specs.Lines.{held_line}
use Rattle.readsheet.proofs.output.held.Goals as goal

pub returns : goal.returns
unfolding held_line
returns c =
    let s = c.args.s.state.now in
    let three : length c.name.result ≡ 3 = search rules in
    let n : length (name_of s.width) ≡ 3 = rw (← c.name.ensures) three in
    let dt = decimal_long (taken_of s) in
    let dc = decimal_long s.count.0 in
    let df = decimal_long s.fill in
    let parts =
    ascii "width=" ∷ name_of s.width ∷ ascii " bytes=" ∷ decimal_of (taken_of s) ∷ ascii " blocks=" ∷ decimal_of s.count.0
    ∷ ascii " fill=" ∷ decimal_of s.fill ∷ ascii "\n" ∷ []
    in
    let put : c.bytes-6.new.self ≡ in_turn 96 [] parts = cc in
    put ∙ in_turn-all 96 parts (simp length-append (omega arith)) ∙ simp append_assoc
