use Rattle.std.proofs.Common.{arith, ℕ, ap, sym, ◌∙◌, ◌≡◌, ◌-◌, ◌*◌, ◌++◌, List, length, take, drop, replicate}
use Rattle.words.specs.Bytes.{number_of, words_of}
use Rattle.compress.specs.Block.{used_of}
use Rattle.compress.specs.declared.Width.{Width}
use Rattle.ripemd.specs.Record.{record_length, words_in, count_in}
use Rattle.ripemd.proofs.Answered.{import_other, import_high, import_start, import_fresh, import_later}
use Rattle.ripemd.proofs.records.import.Goals as goal
use Rattle.ripemd.proofs.records.import.Goals.{else-count-eq0-via-then-count-eq0+else-not-is_initial, else-count-eq0-via-else-count-eq0}

-- the count is the one that was read, and so are the words
count : (w : Width) (r : List ℕ) (u n : ℕ) → u ≡ used_of w → length r ≡ record_length w → n ≡ number_of (take (length r - 4 * u) (drop (4 * u) r)) → count_in w r ≡ n
count w r u n e l g =
    let k : length r - 4 * u ≡ 8 = omega (arith, e, l) in
    ap (λ (k : ℕ). number_of (take 8 (drop (4 * k) r))) (sym e) ∙ sym (rw k at g)

words : (w : Width) (r : List ℕ) (u : ℕ) (h : List ℕ) → u ≡ used_of w → h ≡ words_of u r ++ replicate (10 - u) 0 → words_in w r ≡ h
words w r u h e g = ap (λ (k : ℕ). words_of k r ++ replicate (10 - k) 0) (sym e) ∙ sym g

pub returns-then-bytes-used : goal.returns-then-bytes-used
returns-then-bytes-used c = rw (c.refused.ensures.0, c.refused.ensures.1) (import_other c.args.w c.args.bytes.now (λ q. c.if-bytes-used.true (rw c.used-used.ensures q)))

pub returns-then-too_many : goal.returns-then-too_many
returns-then-too_many c =
    let r = c.args.bytes.now in
    let u = c.used-used.ensures in
    let l : length r ≡ record_length c.args.w = rw (sym u) c.if-bytes-used.false in
    rw (c.refused-then-too_many.ensures.0, c.refused-then-too_many.ensures.1)
    (import_high c.args.w r l _ (count c.args.w r _ _ u l c.get.ensures.0) (sym c.too_many.ensures ∙ c.if-too_many.true))

pub returns-then-not-is_initial : goal.returns-then-not-is_initial
returns-then-not-is_initial c =
    let r = c.args.bytes.now in
    let u = c.used-used.ensures in
    let l : length r ≡ record_length c.args.w = rw (sym u) c.if-bytes-used.false in
    rw (c.refused-then-not-is_initial.ensures.0, c.refused-then-not-is_initial.ensures.1)
    (import_start c.args.w r l _ (count c.args.w r _ _ u l c.get.ensures.0) (sym c.too_many.ensures ∙ c.if-too_many.false)
    _ (words c.args.w r _ _ u c.get_words-words.ensures) c.if-count-eq0.true (sym c.is_initial.ensures ∙ c.if-not-is_initial.true))

pub returns : goal.returns
returns c =
    let w = c.args.w in
    let r = c.args.bytes.now in
    let u = c.used-used.ensures in
    let l : length r ≡ record_length w = rw (sym u) c.if-bytes-used.false in
    let n = count w r _ _ u l c.get.ensures.0 in
    let few = sym c.too_many.ensures ∙ c.if-too_many.false in
    let h = words w r _ _ u c.get_words-words.ensures in
    elim c.else-count-eq0.branch [
      | else-count-eq0-via-then-count-eq0+else-not-is_initial b ↦ import_fresh w r l _ n few _ h b.if-count-eq0.true (sym b.is_initial.ensures ∙ b.if-not-is_initial.false)
      | else-count-eq0-via-else-count-eq0 b ↦ import_later w r l _ n few _ h b.if-count-eq0.false
    ]
