-- `readsheet::output::misshaped` meets its contract.
-- Assumes nothing.
use mathlib.Core.Path.{◌≡◌, ◌∙◌}
use mathlib.Core.List.{[], ◌∷◌, append_assoc}
use native.Mathlib.Omega.{arith}
use lib.ListN.{length-append}
use Rattle.text.specs.Text.{ascii, decimal_of}
use Rattle.text.proofs.Numbers.{decimal_long}
use Rattle.text.proofs.Appended.{in_turn, in_turn-all}
use Rattle.readsheet.specs.Lines.{place_line}
use Rattle.readsheet.proofs.output.misshaped.Goals as goal

pub returns : goal.returns
unfolding place_line
returns c =
    let a = c.args in
    let dp = decimal_long a.place in
    let dl = decimal_long a.line in
    let parts = ascii "error=8 place=" ∷ decimal_of a.place ∷ ascii " line=" ∷ decimal_of a.line ∷ ascii "\n" ∷ [] in
    let put : c.bytes-3.new.self ≡ in_turn 96 [] parts = cc in
    put ∙ in_turn-all 96 parts (simp length-append (omega arith)) ∙ simp append_assoc
