-- DEMAND 3, of every state that is reached: from a fresh one, and from any record or sheet that is accepted.
-- Assumes nothing.
use Rattle.std.specs.Prelude.{ℕ, ◌+◌, ◌*◌, ◌/◌, ◌%◌, ◌^◌, ◌<◌, ◌≤◌, ◌≡◌, List, [], ◌∷◌, ◌++◌, length}
use Rattle.std.proofs.Math.Path.{refl, sym, ap}
use Rattle.std.proofs.Common.{◌∙◌, subst, append-nil, append_assoc, arith, lit<, length-append}
use Rattle.words.specs.Bytes.{Below}
use Rattle.words.proofs.Numbers.{below_parts}
use Rattle.compress.specs.Block.{initial_of}
use Rattle.compress.specs.declared.Width.{Width}
use Rattle.ripemd.specs.State.{fault_of, between, fresh_of, moved}
use Rattle.ripemd.specs.Feed.{as_tail, fed_state, feed_of}
use Rattle.ripemd.specs.Digest.{digest_length, published, continued}
use Rattle.ripemd.specs.Finish.{digest_of, finish_number, finish_bytes}
use Rattle.ripemd.specs.Record.{record_length, words_in, count_in, export_number, export_bytes, import_of}
use Rattle.ripemd.specs.declared.State.{State}
use Rattle.ripemd.specs.Answers.{Fed}
use Rattle.ripemd.proofs.Zeros.{drop_replicate}
use Rattle.ripemd.proofs.Pending.{fed_short}
use Rattle.ripemd.proofs.Cuts.{fed_twice}
use Rattle.ripemd.proofs.Outcomes.{accepted}
use Rattle.ripemd.proofs.Ends.{digest_from_lem, from_nothing}
use Rattle.ripemd.proofs.Kept.{Sound, sound_fine, fresh_sound, fed_width}
use Rattle.ripemd.proofs.Calls.{feed_takes, feed_long, finish_right, export_right, export_part}
use Rattle.ripemd.proofs.Resumed.{import_sound}
use Rattle.sheet.specs.Sheet.{Shaped, sheet_of, write_number, write_bytes}
use Rattle.sheet.specs.Reading.{state_with, read_of}
use Rattle.sheet.proofs.Written.{write_right}
use Rattle.sheet.proofs.Again.{accepted_sheet, read_accepted}
use Rattle.demands.specs.Demand1.{export_refused}
use Rattle.demands.specs.Demand3.{Reach, start, fed, feed_all, joined, good, is}
use Rattle.demands.proofs.Held.{Held, held, again, read_again, chain_state}

-- ---- from words h that c blocks made: the theorems that both kinds of start are instances of
module _ (w : Width) (h : List ℕ) (c : ℕ) (k₀ : Sound (between w h c)) {m : List ℕ} {s : State} (r : Reach (between w h c) m s) where
  k : Held (between w h c) m s
  k = held (between w h c) k₀ r

  -- finish is done, and gives the digest of the chain continued with the message
  pub chain_finish : (o : List ℕ) → length o ≡ digest_length w → (finish_number s (length o) ≡ 0) × (finish_bytes s o ≡ continued w h c m)
  unfolding finish_bytes
  chain_finish o l =
      let e = finish_right s (sound_fine k.sound) (length o) (l ∙ ap digest_length (sym k.width)) in
      (e, accepted (finish_number s (length o)) (digest_of s) o e ∙ ap digest_of k.is ∙ digest_from_lem w h c m)

  -- a piece is taken exactly while the bytes stay below 2^61; else the number is 1, and the state is handed back
  pub chain_feed : (p : List ℕ)
      → (64 * c + length m + length p < 2 ^ 61 → (feed_of s p).number ≡ 0)
      × (2 ^ 61 ≤ 64 * c + length m + length p → feed_of s p ≡ record { number = 1; state = s; index = 0 })
  chain_feed p =
      let b = k.taken in (
        λ l. ap (λ (f : Fed). f.number) (feed_takes s (sound_fine k.sound) p (omega arith)),
        λ l. feed_long s (sound_fine k.sound) p (omega arith),
      )

  -- export is done exactly at a multiple of 64, and its import is the same state; else the number is 2, and no byte is written
  pub chain_export : (o : List ℕ) → length o ≡ record_length w
      → (length m % 64 ≡ 0 → (export_number s (length o) ≡ 0) × (import_of w (export_bytes s o) ≡ record { number = 0; state = s }))
      × (¬ (length m % 64 ≡ 0) → (export_number s (length o) ≡ 2) × (export_bytes s o ≡ o))
  chain_export o l =
      let f = (chain_state w h c k₀ r).2 in
      let lw : length o ≡ record_length s.width = l ∙ ap record_length (sym k.width) in (
        λ z.
            let e = export_right s (sound_fine k.sound) (length o) lw (f ∙ z) in
            (e, ap (λ (v : Width). import_of v (export_bytes s o)) (sym k.width) ∙ again s o k.sound e),
        λ z.
            let e = export_part s (sound_fine k.sound) (length o) lw (λ q. z (sym f ∙ q)) in
            (e, export_refused s o (λ q. omega (arith, sym e ∙ q))),
      )

  -- write is done wherever the message stands, and its sheet is read as the same state
  pub chain_sheet : (o : List ℕ) → length o ≡ length (sheet_of s)
      → (write_number s (length o) ≡ 0) × (read_of (write_bytes s o) ≡ record { number = 0; place = 0; state = s })
  chain_sheet o l = let e = write_right s (sound_fine k.sound) (length o) l in (e, read_again s o k.sound e)

-- ---- from a fresh state
module _ (w : Width) {m : List ℕ} {s : State} (r : Reach (fresh_of w) m s) where
  pub reached_state : (fault_of s ≡ 0) × (s.count.0 ≡ length m / 64) × (s.fill ≡ length m % 64) × (length m < 2 ^ 61)
  reached_state =
      let t = chain_state w (initial_of w) 0 (fresh_sound w) r in
      (t.0, omega (arith, t.1), t.2, omega (arith, t.3))

  -- the published digest of the whole message
  pub reached_finish : (o : List ℕ) → length o ≡ digest_length w → (finish_number s (length o) ≡ 0) × (finish_bytes s o ≡ published w m)
  reached_finish o l =
      let t = chain_finish w (initial_of w) 0 (fresh_sound w) r o l in
      (t.0, t.1 ∙ from_nothing w m)

  pub reached_feed : (p : List ℕ)
      → (length m + length p < 2 ^ 61 → (feed_of s p).number ≡ 0)
      × (2 ^ 61 ≤ length m + length p → feed_of s p ≡ record { number = 1; state = s; index = 0 })
  reached_feed p =
      let t = chain_feed w (initial_of w) 0 (fresh_sound w) r p in
      (λ l. t.0 (omega arith), λ l. t.1 (omega arith))

  pub reached_export : (o : List ℕ) → length o ≡ record_length w
      → (length m % 64 ≡ 0 → (export_number s (length o) ≡ 0) × (import_of w (export_bytes s o) ≡ record { number = 0; state = s }))
      × (¬ (length m % 64 ≡ 0) → (export_number s (length o) ≡ 2) × (export_bytes s o ≡ o))
  reached_export o l = chain_export w (initial_of w) 0 (fresh_sound w) r o l

  pub reached_sheet : (o : List ℕ) → length o ≡ length (sheet_of s)
      → (write_number s (length o) ≡ 0) × (read_of (write_bytes s o) ≡ record { number = 0; place = 0; state = s })
  reached_sheet o l = chain_sheet w (initial_of w) 0 (fresh_sound w) r o l

-- ---- any cut of a message of bytes, fewer than 2^61, is reached, so that these theorems are not of nothing
cut_reached : (w : Width) (ps : List (List ℕ)) (m : List ℕ) (s : State) → Reach (fresh_of w) m s → Below 256 (joined ps)
    → length m + length (joined ps) < 2 ^ 61 → Reach (fresh_of w) (m ++ joined ps) (feed_all s ps)
cut_reached w [] m s r b h = subst (λ (l : List ℕ). Reach (fresh_of w) l s) (sym (append-nil m)) r
cut_reached w (p ∷ ps) m s r b h =
    let la = length-append p (joined ps) in
    let lm = length-append m p in
    let d = below_parts 256 p (joined ps) b in
    subst (λ (l : List ℕ). Reach (fresh_of w) l (feed_all (feed_of s p).state ps)) (append_assoc m p (joined ps))
    (cut_reached w ps (m ++ p) (feed_of s p).state (fed m p s r d.0 ((reached_feed w r p).0 (omega arith))) d.1 (omega arith))

-- cut anywhere, empty pieces allowed: the published digest of the whole
pub cut_anywhere : (w : Width) (ps : List (List ℕ)) (o : List ℕ) → Below 256 (joined ps) → length (joined ps) < 2 ^ 61
    → length o ≡ digest_length w
    → (finish_number (feed_all (fresh_of w) ps) (length o) ≡ 0) × (finish_bytes (feed_all (fresh_of w) ps) o ≡ published w (joined ps))
cut_anywhere w ps o b h l = reached_finish w (cut_reached w ps [] (fresh_of w) start b (omega arith)) o l

-- ---- from any record r, of bytes, that import accepts
module _ (w : Width) (r : List ℕ) (b : Below 256 r) (ok : (import_of w r).number ≡ 0) where
  from_words_lem : {m : List ℕ} {s : State} → Reach (import_of w r).state m s → Reach (between w (words_in w r) (count_in w r)) m s
  from_words_lem {m} {s} q = subst (λ (t : State). Reach t m s) (is w r b ok) q

  -- feeding and finishing continue the chain from its words, with the length counted from its count
  pub record_finish : {m : List ℕ} {s : State} → Reach (import_of w r).state m s → (o : List ℕ) → length o ≡ digest_length w
      → (finish_number s (length o) ≡ 0) × (finish_bytes s o ≡ continued w (words_in w r) (count_in w r) m)
  record_finish q o lo = chain_finish w (words_in w r) (count_in w r) (import_sound w r (good w r b ok) b) (from_words_lem q) o lo

  pub record_feed : {m : List ℕ} {s : State} → Reach (import_of w r).state m s → (p : List ℕ)
      → (64 * count_in w r + length m + length p < 2 ^ 61 → (feed_of s p).number ≡ 0)
      × (2 ^ 61 ≤ 64 * count_in w r + length m + length p → feed_of s p ≡ record { number = 1; state = s; index = 0 })
  record_feed q p = chain_feed w (words_in w r) (count_in w r) (import_sound w r (good w r b ok) b) (from_words_lem q) p

-- ---- from any text l that reading accepts: what is pending in it stands before what is fed
fed_tail : (w : Width) (h : List ℕ) (c : ℕ) (t : List ℕ) → length t < 64
    → fed_state (between w h c) t ≡ moved (between w h c) h c (length t) (as_tail t)
fed_tail w h c t l =
    let z : 0 + length t ≡ length t = omega arith in
    sym (fed_short (between w h c) t refl (lit< tt) refl (omega arith)) ∙ rw (z, drop_replicate 64 (length t))

module _ (l : List ℕ) (ok : (read_of l).number ≡ 0) (k : Shaped l) where
  abbrev h₀ : List ℕ
  h₀ = words_in k.width k.words

  from_tail : (read_of l).state ≡ fed_state (between k.width h₀ k.count) k.tail
  unfolding state_with
  from_tail = read_accepted l ok k ∙ sym (fed_tail k.width h₀ k.count k.tail k.tail_long)

  pub sheet_finish : {m : List ℕ} {s : State} → Reach (read_of l).state m s → (o : List ℕ) → length o ≡ digest_length k.width
      → (finish_number s (length o) ≡ 0) × (finish_bytes s o ≡ continued k.width h₀ k.count (k.tail ++ m))
  unfolding finish_bytes
  sheet_finish {m} {s} q o lo =
      let v = held (read_of l).state (accepted_sheet l ok).1 q in
      let w : s.width ≡ k.width =
      v.width ∙ ap (λ (t : State). t.width) from_tail ∙ fed_width (between k.width h₀ k.count) k.tail
      in
      let e = finish_right s (sound_fine v.sound) (length o) (lo ∙ ap digest_length (sym w)) in
      let f : s ≡ fed_state (between k.width h₀ k.count) (k.tail ++ m) =
      v.is
      ∙ ap (λ (t : State). fed_state t m) from_tail
      ∙ fed_twice (between k.width h₀ k.count) k.tail m refl (lit< tt)
      in
      (e, accepted (finish_number s (length o)) (digest_of s) o e ∙ ap digest_of f ∙ digest_from_lem k.width h₀ k.count (k.tail ++ m))
