-- `sheet::fields::words` meets its contract.
-- Assumes nothing.
use mathlib.Core.Path.{ap, ◌∙◌}
use native.Mathlib.Omega.{arith}
use Prim.Native.Nat.{ℕ, ◌-◌}
use mathlib.Core.List.{List, ◌++◌}
use lib.ListN.{replicate}
use Rattle.words.specs.Bytes.{words_of}
use Rattle.words.proofs.Numbers.{words_front}
use Rattle.shape.specs.Digits.{unhex_of}
use Rattle.shape.proofs.Hex.{unhex_half}
use Rattle.sheet.proofs.fields.words.Goals as goal

pub returns : goal.returns
returns c =
    let n = c.args.n in
    let u = unhex_of c.args.s.now in
    c.get_words.ensures
    ∙ ap (λ (l : List ℕ). words_of n l ++ replicate (10 - n) 0) c.unhex.ensures
    ∙ ap (λ (l : List ℕ). l ++ replicate (10 - n) 0) (words_front n u _ (omega (arith, unhex_half c.args.s.now)))
