use Rattle.std.proofs.Common.{rules, ◌^◌, ap, sym, ◌∙◌, ◌≡◌, length}
use Rattle.std.proofs.lemmas.Bool.{leb-false}
use Rattle.ripemd.specs.Digest.{digest_length}
use Rattle.ripemd.specs.Feed.{fed_state}
use Rattle.ripemd.specs.Finish.{digest_of}
use Rattle.ripemd.specs.Answers.{plain}
use Rattle.ripemd.specs.State.{fault_of, fresh_of}
use Rattle.ripemd.specs.declared.State.{State}
use Rattle.ripemd.proofs.Answered.{shot_other, shot_long}
use Rattle.ripemd.proofs.Calls.{fresh_fine, fed_fine, fed_ends, shot_number, shot_bytes}
use Rattle.ripemd.proofs.Kept.{fed_width}
use Rattle.ripemd.proofs.whole.one_shot.Goals as goal

pub returns-then-out-used : goal.returns-then-out-used
returns-then-out-used c = shot_other c.args.w c.args.message.now c.args.out.now (λ q. c.if-out-used.true (rw c.used.ensures q))

pub returns-then-too_long : goal.returns-then-too_long
returns-then-too_long c =
    shot_long c.args.w c.args.message.now c.args.out.now (rw (sym c.used.ensures) c.if-out-used.false) (sym c.too_long.ensures ∙ c.if-too_long.true)

pub invariant_of-take_in : goal.invariant_of-take_in
invariant_of-take_in c = record { sound = ap fault_of c.fresh-s.ensures ∙ fresh_fine c.args.w; ten = search rules; long = search rules }

pub invariant_of-put_digest : goal.invariant_of-put_digest
invariant_of-put_digest c =
    let m = c.args.message.now in
    let h = leb-false (2 ^ 61) (length m) (sym c.too_long.ensures ∙ c.if-too_long.false) in
    let e = c.take_in-t.ensures ∙ ap (λ (s : State). fed_state s m) c.fresh-s.ensures in
    record { sound = ap fault_of e ∙ fed_fine c.args.w m h; ten = search rules; long = search rules }

pub put_digest-requires : goal.put_digest-requires
put_digest-requires c =
    let e = c.take_in-t.ensures ∙ ap (λ (s : State). fed_state s c.args.message.now) c.fresh-s.ensures in
    let l : length c.args.out.now ≡ digest_length c.args.w = rw (sym c.used.ensures) c.if-out-used.false in
    l ∙ ap digest_length (sym (ap (λ (s : State). s.width) e ∙ fed_width (fresh_of c.args.w) c.args.message.now))

pub returns : goal.returns
returns c =
    let w = c.args.w in
    let m = c.args.message.now in
    let o = c.args.out.now in
    let h = leb-false (2 ^ 61) (length m) (sym c.too_long.ensures ∙ c.if-too_long.false) in
    let l : length o ≡ digest_length w = rw (sym c.used.ensures) c.if-out-used.false in
    let e = c.take_in-t.ensures ∙ ap (λ (s : State). fed_state s m) c.fresh-s.ensures in
    (ap plain (sym (shot_number w m h o l)), c.put_digest.ensures ∙ ap digest_of e ∙ fed_ends w m h ∙ sym (shot_bytes w m h o l))
