-- `shape::run` meets its contract.
-- Assumes nothing.
use mathlib.Core.Path.{◌∙◌}
use borrow.Author.Rules.{rules}
use borrow.Author.Tests.{tests}
use lib.ListN.{take}
use Rattle.std.proofs.lemmas.Iterator.{YieldsList-from_slice, YieldsList-from_take}
use Rattle.std.proofs.lemmas.Iterator.Consumers.{count_from_yields_List}
use Rattle.std.proofs.lemmas.Iterator.Search.{YieldsList-from_take_while}
use Rattle.std.proofs.lemmas.List.Folds.{length-prefix_len}
use Rattle.shape.specs.Shape.{allows_of}
use Rattle.shape.proofs.Loops.{run_prefix}
use Rattle.shape.proofs.run.Goals as goal

pub returns : goal.returns
returns c =
    let a = c.args in
    let s = a.s.now in
    let w = c.take_while in
    count_from_yields_List w.result _ c.count.ensures.ran
    (YieldsList-from_take_while _ (allows_of a.c)
    (YieldsList-from_take a.n (YieldsList-from_slice s (cc)) (cc))
    w.ensures.closure w.ensures.done (λ x b q k. search (rules, tests)))
    ∙ length-prefix_len (allows_of a.c) (take a.n s)
    ∙ run_prefix a.c a.n s
