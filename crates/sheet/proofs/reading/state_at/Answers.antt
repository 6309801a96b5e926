-- `sheet::reading::state_at` meets its contract.
-- Assumes nothing.
use mathlib.Core.Path.{◌≡◌, ap, sym, ◌∙◌}
use native.Mathlib.Omega.{arith}
use Prim.Native.Nat.{ℕ, ◌+◌, ◌-◌, ◌*◌, ◌/◌}
use lib.ListN.{length, take, drop}
use Rattle.compress.specs.Block.{used_of}
use Rattle.ripemd.specs.Feed.{as_tail}
use Rattle.ripemd.specs.Record.{words_in}
use Rattle.shape.specs.declared.Class.TheVariants.{Hex}
use Rattle.shape.specs.Shape.{run_of}
use Rattle.sheet.specs.Reading.{count_in, words_at, word_bytes_in, tail_at, tail_digits, tail_in, state_with}
use Rattle.std.proofs.lemmas.List.{take_rest}
use Rattle.sheet.proofs.Apart.{tail_bytes, count_is}
use Rattle.sheet.proofs.reading.state_at.Goals as goal

pub returns : goal.returns
unfolding state_with count_in word_bytes_in tail_in
returns c =
    let l = c.args.s.now in
    let d = c.unwrap-d.result in
    let u = c.used-used.result in
    let k = c.run-n.result in
    let n = 4 * used_of c.args.w in
    let eu = c.used-used.ensures in
    let ed = count_is c.args.w l c.requires c.numeral.result c.numeral.ensures d c.unwrap-d.ensures in
    let words : 17 + d + 7 ≡ words_at l = ap (λ (x : ℕ). 17 + x + 7) ed in
    let wide : 17 + d + 7 + 8 * u - (17 + d + 7) ≡ 2 * n = omega arith in
    let tail : 17 + d + 7 + 8 * u + 6 ≡ tail_at n l = omega arith in
    let rest : take (length l - (17 + d + 7 + 8 * u + 6)) (drop (17 + d + 7 + 8 * u + 6) l) ≡ drop (tail_at n l) l =
    take_rest l (17 + d + 7 + 8 * u + 6) ∙ ap (λ (a : ℕ). drop a l) tail
    in
    let e₁ : c.words.result ≡ words_in c.args.w (word_bytes_in n l) = c.words.ensures ∙ rw (wide, words, eu) in
    let e₂ : c.value.result ≡ count_in l = c.value.ensures ∙ rw (take_rest, ed) in
    let e₃ : k ≡ tail_digits n l = c.run-n.ensures ∙ ap (run_of Hex 126) rest in
    let e₄ : c.tail.result ≡ as_tail (tail_in n l) = c.tail.ensures ∙ rw (rest, e₃) in
    let e₅ : k / 2 ≡ length (tail_in n l) = ap (λ (x : ℕ). x / 2) e₃ ∙ sym (tail_bytes c.args.w l c.requires) in
    rw (e₁, e₂, e₄, e₅)
