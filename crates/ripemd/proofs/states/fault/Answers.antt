use Rattle.std.proofs.Common.{sym, ◌∙◌}
use Rattle.ripemd.proofs.Faults.{fill_fault, count_fault, tail_fault, spare_fault, start_fault, no_block, some_block}
use Rattle.ripemd.proofs.states.fault.Goals as goal
use Rattle.ripemd.proofs.states.fault.Goals.{else-s-eq0-via-then-s-eq0+else-not-is_initial, else-s-eq0-via-else-s-eq0}

pub returns-then-fill-ge64 : goal.returns-then-fill-ge64
returns-then-fill-ge64 c = fill_fault c.args.s c.if-fill-ge64.true

pub returns-then-too_many : goal.returns-then-too_many
returns-then-too_many c = count_fault c.args.s c.if-fill-ge64.false (sym c.too_many.ensures ∙ c.if-too_many.true)

pub returns-then-not-all_zero : goal.returns-then-not-all_zero
returns-then-not-all_zero c =
    tail_fault c.args.s c.if-fill-ge64.false (sym c.too_many.ensures ∙ c.if-too_many.false) (sym c.all_zero.ensures ∙ c.if-not-all_zero.true)
    c.leading.result c.leading.ensures.0

pub returns-then-zeros-spare : goal.returns-then-zeros-spare
returns-then-zeros-spare c =
    spare_fault c.args.s c.if-fill-ge64.false (sym c.too_many.ensures ∙ c.if-too_many.false) (sym c.all_zero.ensures ∙ c.if-not-all_zero.false)
    c.used-used.result c.leading-zeros.result c.used-used.ensures c.leading-zeros.ensures.0 c.if-zeros-spare.true

pub returns-then-not-is_initial : goal.returns-then-not-is_initial
returns-then-not-is_initial c =
    start_fault c.args.s c.if-fill-ge64.false (sym c.too_many.ensures ∙ c.if-too_many.false) (sym c.all_zero.ensures ∙ c.if-not-all_zero.false)
    c.used-used.result c.leading-zeros.result c.used-used.ensures c.leading-zeros.ensures.0 c.if-zeros-spare.false
    c.if-s-eq0.true (sym c.is_initial.ensures ∙ c.if-not-is_initial.true)

pub returns : goal.returns
returns c =
    let s = c.args.s in
    let f = c.if-fill-ge64.false in
    let m = sym c.too_many.ensures ∙ c.if-too_many.false in
    let t = sym c.all_zero.ensures ∙ c.if-not-all_zero.false in
    let u = c.used-used.ensures in
    let k = c.leading-zeros.ensures.0 in
    let w = c.if-zeros-spare.false in
    elim c.else-s-eq0.branch [
      | else-s-eq0-via-then-s-eq0+else-not-is_initial b ↦ no_block s f m t _ _ u k w b.if-s-eq0.true (sym b.is_initial.ensures ∙ b.if-not-is_initial.false)
      | else-s-eq0-via-else-s-eq0 b ↦ some_block s f m t _ _ u k w b.if-s-eq0.false
    ]
