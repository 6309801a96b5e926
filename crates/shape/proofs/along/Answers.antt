-- `shape::along` meets its contract.
-- Assumes nothing.
use mathlib.Core.Path.{◌∙◌}
use Prim.Native.Nat.{ℕ}
use borrow.Author.Rules.{rules}
use borrow.Author.Tests.{tests}
use lib.Dec.{eqb}
use Rattle.std.specs.List.{zip}
use Rattle.std.proofs.lemmas.Iterator.{YieldsList-from_slice, YieldsList-from_zip}
use Rattle.std.proofs.lemmas.Iterator.Consumers.{count_from_yields_List}
use Rattle.std.proofs.lemmas.Iterator.Search.{YieldsList-from_take_while}
use Rattle.std.proofs.lemmas.List.Folds.{length-prefix_len}
use Rattle.shape.proofs.Loops.{along_zip}
use Rattle.shape.proofs.along.Goals as goal

pub returns : goal.returns
returns c =
    let s = c.args.s.now in
    let t = c.args.text.now in
    let same = λ (p : ℕ × ℕ). eqb p.0 p.1 in
    let w = c.take_while in
    count_from_yields_List w.result _ c.count.ensures.ran
    (YieldsList-from_take_while _ same
    (YieldsList-from_zip (YieldsList-from_slice s (cc)) (YieldsList-from_slice t (cc)))
    w.ensures.closure w.ensures.done (λ x b q k. search (rules, tests)))
    ∙ length-prefix_len same (zip s t)
    ∙ along_zip t s
