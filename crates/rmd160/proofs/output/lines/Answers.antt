use Rattle.std.proofs.Common.{rules, ◌≡◌, ◌∙◌, ap, sym, [], ◌∷◌, length, length-append, append_assoc, arith, refl, Result, Ok, Err}
use Rattle.std.specs.Result.{IsOk}
use Rattle.ripemd.specs.Answers.{Answer, told}
use Rattle.ripemd.specs.State.{taken_of}
use Rattle.ripemd.specs.Digest.{digest_length}
use Rattle.ripemd.specs.Finish.{digest_of, finish_bytes}
use Rattle.ripemd.proofs.Outcomes.{accepted}
use Rattle.ripemd.proofs.Calls.{finish_right}
use Rattle.text.specs.Text.{ascii, decimal_of, hex_of}
use Rattle.text.proofs.Halves.{length_hex}
use Rattle.text.proofs.Numbers.{decimal_long}
use Rattle.text.proofs.Appended.{in_turn, in_turn-all}
use Rattle.rmd160.specs.Lines.{lines_of}
use Rattle.ripemd.specs.declared.refusals.Refusal.{Refusal}
use Rattle.ripemd.proofs.Answered.{refusal_numbered}
use Rattle.rmd160.proofs.output.lines.Goals as goal

told_ok : (r : Result Unit Refusal) → (told r).number ≡ 0 → IsOk r
told_ok (Ok _) e = refl
told_ok (Err r) e = absurd (refusal_numbered r e)

pub unwrap-requires : goal.unwrap-requires
unwrap-requires c =
    let n = finish_right c.args.s.state.now c.args.s.sound 20 (ap digest_length (sym c.requires)) in
    told_ok c.finish.result (ap (λ (a : Answer). a.number) c.finish.ensures.0 ∙ n)

pub returns : goal.returns
unfolding lines_of finish_bytes
returns c =
    let s = c.args.s.state.now in
    let d = c.finish.new.out in
    let ld : length d ≡ 20 = search rules in
    let n = finish_right s c.args.s.sound 20 (ap digest_length (sym c.requires)) in
    let e : d ≡ digest_of s = c.finish.ensures.1 ∙ accepted _ (digest_of s) _ n in
    let parts = ascii "width=160\nbytes=" ∷ decimal_of (taken_of s) ∷ ascii "\ndigest=" ∷ hex_of (digest_of s) ∷ ascii "\n" ∷ [] in
    let put : c.bytes-3.new.self ≡ in_turn 96 [] parts = cc e in
    put
    ∙ in_turn-all 96 parts (simp length-append (omega (arith, decimal_long (taken_of s), length_hex (digest_of s), ap length e)))
    ∙ simp append_assoc
