use Rattle.std.proofs.Common.{◌<◌, arith, ap, sym, ◌∙◌}
use Rattle.ripemd.specs.Answers.{Fed, of_refusal}
use Rattle.ripemd.specs.Feed.{feed_of}
use Rattle.ripemd.specs.declared.State.{State}
use Rattle.ripemd.specs.declared.refusals.Fault.TheVariants.{Fill, Count, Tail, Spare, Start}
use Rattle.ripemd.specs.declared.refusals.Refusal.{Refusal}
use Rattle.ripemd.specs.declared.refusals.Refusal.TheVariants.{Faulty, TooLong, MidBlock, OutputLength, RecordLength, TooMany, WrongStart}
use Rattle.ripemd.proofs.Answered.{refusal_numbered}
use Rattle.ripemd_c.specs.Image.{image_of, fed_image}
use Rattle.ripemd.proofs.Outcomes.{accepted, refused}
use Rattle.ripemd_c.proofs.ripemd_feed.Goals as goal

-- no refusal has a number above 64
refusal_few : (r : Refusal) → (of_refusal r).number < 65
refusal_few (Faulty Fill) = omega arith
refusal_few (Faulty Count) = omega arith
refusal_few (Faulty (Tail i)) = omega arith
refusal_few (Faulty (Spare i)) = omega arith
refusal_few (Faulty Start) = omega arith
refusal_few TooLong = omega arith
refusal_few MidBlock = omega arith
refusal_few OutputLength = omega arith
refusal_few RecordLength = omega arith
refusal_few TooMany = omega arith
refusal_few WrongStart = omega arith

pub returns-in-Ok : goal.returns-in-Ok
unfolding fed_image
returns-in-Ok c =
    let e = c.in-Ok.ensures ∙ ap (λ (s : State). feed_of s c.args.piece.now) c.whole_state.ensures in
    (ap (λ (f : Fed). f.number) e, c.image.ensures ∙ ap (λ (f : Fed). image_of f.state) e ∙ sym (accepted _ _ c.args.state.now (sym (ap (λ (f : Fed). f.number) e))))

pub returns-in-Err : goal.returns-in-Err
unfolding fed_image
returns-in-Err c =
    let e = c.in-Err.ensures ∙ ap (λ (s : State). feed_of s c.args.piece.now) c.whole_state.ensures in
    let n = ap (λ (f : Fed). f.number) e in
    (omega (arith, c.number.ensures, n, refusal_few c.in-Err.r.refusal), sym (refused _ _ c.args.state.now (λ q. refusal_numbered _ (n ∙ q))))
