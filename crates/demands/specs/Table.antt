-- The scope's table T1 to T13, in one statement. Messages are given by their lengths, so that 2^61 - 1 bytes cost nothing.
-- Assumes nothing.
use Rattle.std.specs.Prelude.{ℕ, ◌+◌, ◌-◌, ◌*◌, ◌%◌, ◌^◌, ◌<◌, ◌≤◌, ◌≡◌, refl, List, [], ◌∷◌, ◌++◌, length, get_or, take, drop, replicate}
use Rattle.std.proofs.Common.{sym, ap, ◌∙◌, append_assoc, arith, rules, lit<, lit≤, length-append, drop_at}
use borrow.Author.Tests.{eq-eqb, le-leb}
use Rattle.std.proofs.lemmas.List.{length-replicate}
use Rattle.words.specs.Words.{rol_of}
use Rattle.words.specs.Bytes.{bytes_of, number_of, Below}
use Rattle.words.specs.Examples.{t11}
use Rattle.words.proofs.Numbers.{length_bytes_lem, below_append}
use Rattle.lines.specs.Examples.{first, t12}
use Rattle.compress.specs.Block.{used_of, blocks_of}
use Rattle.compress.specs.declared.Width.{Width}
use Rattle.compress.specs.declared.Width.TheVariants.{W160}
use Rattle.ripemd.specs.State.{taken_of, wrong_start, fault_of, fresh_of, between}
use Rattle.ripemd.specs.Feed.{feed_number, feed_of, fed_state}
use Rattle.ripemd.specs.Finish.{pad_count, pad_of}
use Rattle.ripemd.specs.Record.{record_length, record_of, words_in, count_in, export_number, import_number, import_of}
use Rattle.ripemd.specs.declared.State.{State}
use Rattle.ripemd.specs.Answers.{Fed}
use Rattle.ripemd.specs.Answers.{Imported}
use Rattle.ripemd.proofs.Calls.{feed_takes, feed_long}
use Rattle.ripemd.proofs.Kept.{sound_fine, fresh_sound, fed_taken}
use Rattle.ripemd.proofs.Resumed.{Importable, import_takes, import_sound}

-- the last eight bytes of what a fresh state that was fed m is padded to
abbrev pub length_bytes : Width → List ℕ → List ℕ
length_bytes w m = drop (length (pad_of (fed_state (fresh_of w) m)) - 8) (pad_of (fed_state (fresh_of w) m))

-- T8's bytes
abbrev pub fresh_record : List ℕ
fresh_record =
    0x01 ∷ 0x23 ∷ 0x45 ∷ 0x67 ∷ 0x89 ∷ 0xab ∷ 0xcd ∷ 0xef ∷ 0xfe ∷ 0xdc ∷ 0xba ∷ 0x98 ∷ 0x76 ∷ 0x54 ∷ 0x32 ∷ 0x10 ∷ 0xf0 ∷ 0xe1 ∷ 0xd2 ∷ 0xc3 ∷ replicate 8 0

-- the count bytes of T9 and of T10
abbrev pub high_count : List ℕ
high_count = 0 ∷ 0 ∷ 0 ∷ 0 ∷ 0 ∷ 0 ∷ 0x80 ∷ 0 ∷ []

abbrev pub top_count : List ℕ
top_count = 0xff ∷ 0xff ∷ 0xff ∷ 0xff ∷ 0xff ∷ 0xff ∷ 0x7f ∷ 0 ∷ []

-- ---- the rows' proofs
pad_end : (s : State) → drop (length (pad_of s) - 8) (pad_of s) ≡ bytes_of 8 (8 * taken_of s)
unfolding pad_of
pad_end s =
    let front = take s.fill s.tail ++ (0x80 ∷ replicate ((119 - taken_of s % 64) % 64) 0) in
    let bits = bytes_of 8 (8 * taken_of s) in
    let e : pad_of s ≡ front ++ bits = sym (append_assoc (take s.fill s.tail) (0x80 ∷ replicate ((119 - taken_of s % 64) % 64) 0) bits) in
    let l8 = length_bytes_lem 8 (8 * taken_of s) in
    let la = length-append front bits in
    rw e (drop_at front bits (length (front ++ bits) - 8) (omega arith))

length_bytes_are : (w : Width) (m : List ℕ) (n : ℕ) → length m ≡ n → length_bytes w m ≡ bytes_of 8 (8 * n)
length_bytes_are w m n e =
    let t = fed_taken (fresh_of w) m (fresh_sound w) in
    pad_end (fed_state (fresh_of w) m) ∙ ap (bytes_of 8) (omega arith)

-- a record of the word bytes ws and eight count bytes
module _ (w : Width) (ws cs : List ℕ) (l : length ws ≡ 4 * used_of w) (l8 : length cs ≡ 8) where
  long : length (ws ++ cs) ≡ record_length w
  long = length-append ws cs ∙ (omega arith)

  count_is : count_in w (ws ++ cs) ≡ number_of (take 8 cs)
  count_is = ap (λ (r : List ℕ). number_of (take 8 r)) (drop_at ws cs (4 * used_of w) l)

  count_high : 2 ^ 55 ≤ number_of (take 8 cs) → (import_of w (ws ++ cs)).number ≡ 5
  unfolding import_of import_number
  count_high h = rw (eq-eqb (length (ws ++ cs)) (record_length w) long, le-leb (2 ^ 55) (count_in w (ws ++ cs)) (omega (arith, count_is)))

  module _ (h : number_of (take 8 cs) < 2 ^ 55) (some : 0 < number_of (take 8 cs)) where
    good : Importable w (ws ++ cs)
    good = record { long = long; count = omega (arith, count_is); start = λ z. absurd (omega (arith, count_is)) }

    count_low : import_of w (ws ++ cs) ≡ record { number = 0; state = between w (words_in w (ws ++ cs)) (count_in w (ws ++ cs)) }
    count_low = import_takes w (ws ++ cs) good

    low_taken : taken_of (import_of w (ws ++ cs)).state ≡ 64 * number_of (take 8 cs)
    low_taken = ap (λ (i : Imported). taken_of i.state) count_low ∙ (omega (arith, count_is))

    low_fine : Below 256 (ws ++ cs) → fault_of (import_of w (ws ++ cs)).state ≡ 0
    low_fine b = rw count_low (sound_fine (import_sound w (ws ++ cs) good b))

    -- fed p, while the bytes stay below 2^61 and where they don't
    fed_low : Below 256 (ws ++ cs) → (p : List ℕ) → 64 * number_of (take 8 cs) + length p < 2 ^ 61 → (feed_of (import_of w (ws ++ cs)).state p).number ≡ 0
    fed_low b p g = ap (λ (f : Fed). f.number) (feed_takes (import_of w (ws ++ cs)).state (low_fine b) p (omega (arith, low_taken)))

    fed_high : Below 256 (ws ++ cs) → (p : List ℕ) → 2 ^ 61 ≤ 64 * number_of (take 8 cs) + length p → (feed_of (import_of w (ws ++ cs)).state p).number ≡ 1
    fed_high b p g = ap (λ (f : Fed). f.number) (feed_long (import_of w (ws ++ cs)).state (low_fine b) p (omega (arith, low_taken)))

fresh_record_lem : record_of (fresh_of W160) ≡ fresh_record
unfolding record_of
fresh_record_lem = refl

one_byte : (b : ℕ) → export_number (feed_of (fresh_of W160) (b ∷ [])).state 27 ≡ 3
unfolding export_number feed_of feed_number fed_state fault_of wrong_start blocks_of
one_byte b = refl

-- for each width, message m and word bytes ws of a record
pub table : (w : Width) (m ws : List ℕ) → length ws ≡ 4 * used_of w → Below 256 ws
    → (pad_count 0 ≡ 1)  -- T1
    × (pad_count 55 ≡ 1)  -- T2
    × (pad_count 56 ≡ 2)  -- T3
    × (pad_count 63 ≡ 2)  -- T4
    × (length m ≡ 3 → length_bytes w m ≡ 0x18 ∷ 0 ∷ 0 ∷ 0 ∷ 0 ∷ 0 ∷ 0 ∷ 0 ∷ [])  -- T5
    × (length m ≡ 64 → length_bytes w m ≡ 0 ∷ 2 ∷ 0 ∷ 0 ∷ 0 ∷ 0 ∷ 0 ∷ 0 ∷ [])  -- T6
    × (length m ≡ 2 ^ 61 - 1 → length_bytes w m ≡ 0xf8 ∷ 0xff ∷ 0xff ∷ 0xff ∷ 0xff ∷ 0xff ∷ 0xff ∷ 0xff ∷ [])  -- T7
    × (record_of (fresh_of W160) ≡ fresh_record)  -- T8
    × ((import_of w (ws ++ high_count)).number ≡ 5)  -- T9
    × ((import_of w (ws ++ top_count)).number ≡ 0)  -- T10
    × (length m ≡ 63 → (feed_of (import_of w (ws ++ top_count)).state m).number ≡ 0)
    × (length m ≡ 64 → (feed_of (import_of w (ws ++ top_count)).state m).number ≡ 1)
    × (rol_of 5 0x80000001 ≡ 0x00000030)  -- T11
    × ((get_or first 0 0 ≡ 0x1602f864) × (get_or first 2 0 ≡ 0xeb73fa62))  -- T12
    × ((b : ℕ) → export_number (feed_of (fresh_of W160) (b ∷ [])).state 27 ≡ 3)  -- T13
table w m ws l b =
    let t : Below 256 (ws ++ top_count) = below_append 256 ws top_count b (search rules) in (
      refl,
      refl,
      refl,
      refl,
      λ e. length_bytes_are w m 3 e,
      λ e. length_bytes_are w m 64 e,
      λ e. length_bytes_are w m (2 ^ 61 - 1) e,
      fresh_record_lem,
      count_high w ws high_count l refl (lit≤ tt),
      ap (λ (i : Imported). i.number) (count_low w ws top_count l refl (lit< tt) (lit< tt)),
      λ e. fed_low w ws top_count l refl (lit< tt) (lit< tt) t m (omega arith),
      λ e. fed_high w ws top_count l refl (lit< tt) (lit< tt) t m (omega arith),
      t11,
      t12,
      one_byte,
    )

-- messages of every length are there, so that no row is of nothing
pub some_message : (n : ℕ) → (m : List ℕ) × (length m ≡ n)
some_message n = (replicate n 0, length-replicate n 0)
