use Rattle.std.proofs.Common.{arith, ℕ, rules, ap, sym, ◌∙◌, ◌≡◌, ◌+◌, ◌*◌, ◌++◌, length, take, drop}
use lib.Seq.{length-take-le}
use Rattle.std.proofs.lemmas.Result.{err_from_is_err_and}
use Rattle.words.specs.Bytes.{bytes_of, word_bytes}
use Rattle.words.proofs.Numbers.{put_at}
use Rattle.compress.specs.Block.{used_of}
use Rattle.compress.proofs.Kept.{used_le}
use Rattle.ripemd.specs.Record.{record_length}
use Rattle.ripemd.specs.State.{fault_of}
use Rattle.ripemd.proofs.Answered.{export_faulty, export_other, export_pending, export_done}
use Rattle.ripemd.proofs.Recorded.{record_whole}
use Rattle.ripemd.proofs.records.export.Goals as goal

pub returns-in_err-try_from : goal.returns-in_err-try_from
returns-in_err-try_from c =
    let p = err_from_is_err_and c.from_residual.result c.from_residual.ensures.1 in
    rw (p.1, p.2) (export_faulty c.args.s _ c.in_err-try_from.ensures c.args.out.now)

pub returns-then-out-used : goal.returns-then-out-used
returns-then-out-used c =
    export_other c.args.s (ap fault_of (sym c.in_ok-try_from.ensures) ∙ c.in_ok-try_from.field-0.sound) c.args.out.now (λ q. c.if-out-used.true (rw c.used-used.ensures q))

pub returns-then-s-ne0 : goal.returns-then-s-ne0
returns-then-s-ne0 c =
    export_pending c.args.s (ap fault_of (sym c.in_ok-try_from.ensures) ∙ c.in_ok-try_from.field-0.sound) c.args.out.now
    (rw (sym c.used-used.ensures) c.if-out-used.false) c.if-s-ne0.true

pub returns : goal.returns
returns c =
    let s = c.args.s in
    let u = c.used-used.ensures in
    let o = c.args.out.now in
    let n : length o ≡ record_length s.width = rw (sym u) c.if-out-used.false in
    let d = export_done s (ap fault_of (sym c.in_ok-try_from.ensures) ∙ c.in_ok-try_from.field-0.sound) o n c.if-s-ne0.false in
    let mid = c.put_words.new.out in
    let k : length (take c.used-used.result s.words) ≡ c.used-used.result = length-take-le _ s.words (omega (arith, used_le s.width, u)) in
    let m : mid ≡ word_bytes (take (used_of s.width) s.words) ++ drop (4 * used_of s.width) o =
    (rw k at c.put_words.ensures) ∙ ap (λ (k : ℕ). word_bytes (take k s.words) ++ drop (4 * k) o) u
    in
    let lm : length mid ≡ length o = search rules in (
      d.0,
      put_at mid c.put.new.out (4 * c.used-used.result) (length mid) 8 s.count.0 (omega (arith, n, u)) (omega arith) c.put.ensures
          ∙ ap (λ (k : ℕ). take (4 * k) mid ++ bytes_of 8 s.count.0 ++ drop (4 * k + 8) mid) u
          ∙ record_whole o s n (search rules) mid m
          ∙ d.1,
    )
