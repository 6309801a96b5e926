use Rattle.std.proofs.Common.{arith, ap, sym, ◌∙◌, Err}
use Rattle.ripemd.specs.Answers.{fed}
use Rattle.ripemd.specs.Feed.{fed_state}
use Rattle.ripemd.specs.State.{taken_of, fault_of}
use Rattle.ripemd.specs.declared.State.{State}
use Rattle.ripemd.specs.declared.refusals.Refusal.{Refusal}
use Rattle.ripemd.proofs.Answered.{feed_faulty, feed_over, feed_done}
use Rattle.ripemd.proofs.Well.{well}
use Rattle.ripemd.proofs.feeding.feed.Goals as goal

pub returns-in-Err : goal.returns-in-Err
returns-in-Err c =
    ap (λ (r : Refusal). fed (Err record { refusal = r; state = c.args.s })) c.into.ensures ∙ feed_faulty c.args.s _ c.in-Err.ensures c.args.piece.now

pub too_long-requires : goal.too_long-requires
too_long-requires c =
    let w = well c.in-Ok.w.state.now c.in-Ok.w.sound in
    omega (arith, w.count, w.fill)

pub returns-then-too_long : goal.returns-then-too_long
returns-then-too_long c =
    let e = c.in-Ok.ensures in
    feed_over c.args.s (ap fault_of (sym e) ∙ c.in-Ok.w.sound) c.args.piece.now c.bytes_taken.result.0
    (c.bytes_taken.ensures ∙ ap taken_of e) (sym c.too_long.ensures ∙ c.if-too_long.true)

pub overflow_sub-s : goal.overflow_sub-s
overflow_sub-s c =
    let w = well c.args.s (ap fault_of (sym c.in-Ok.ensures) ∙ c.in-Ok.w.sound) in
    omega (arith, w.fill)

pub returns-then-piece-s : goal.returns-then-piece-s
returns-then-piece-s c =
    let e = c.in-Ok.ensures in
    feed_done c.args.s (ap fault_of (sym e) ∙ c.in-Ok.w.sound) c.args.piece.now c.bytes_taken.result.0
    (c.bytes_taken.ensures ∙ ap taken_of e) (sym c.too_long.ensures ∙ c.if-too_long.false)
    c.keep.result (c.keep.ensures ∙ ap (λ (s : State). fed_state s c.args.piece.now) e)

pub returns : goal.returns
returns c =
    let e = c.in-Ok.ensures in
    feed_done c.args.s (ap fault_of (sym e) ∙ c.in-Ok.w.sound) c.args.piece.now c.bytes_taken.result.0
    (c.bytes_taken.ensures ∙ ap taken_of e) (sym c.too_long.ensures ∙ c.if-too_long.false)
    c.take_in.result (c.take_in.ensures ∙ ap (λ (s : State). fed_state s c.args.piece.now) e)
