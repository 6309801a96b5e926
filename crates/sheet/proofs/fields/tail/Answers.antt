-- `sheet::fields::tail` meets its contract.
-- Assumes nothing.
use mathlib.Core.Path.{ap, sym, ◌∙◌}
use Prim.Native.Nat.{ℕ, ◌-◌, ◌/◌}
use mathlib.Core.List.{List, ◌++◌}
use lib.ListN.{length, replicate}
use Rattle.ripemd.proofs.Zeros.{drop_replicate}
use Rattle.shape.specs.Digits.{unhex_of}
use Rattle.shape.proofs.Hex.{unhex_half}
use Rattle.sheet.proofs.fields.tail.Goals as goal

pub returns : goal.returns
returns c =
    let s = c.args.s.now in
    c.unhex.ensures
    ∙ ap (λ (l : List ℕ). unhex_of s ++ l) (drop_replicate 64 (length s / 2) ∙ ap (λ (k : ℕ). replicate (64 - k) 0) (sym (unhex_half s)))
