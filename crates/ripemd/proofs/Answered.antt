-- What each call owes at each of its exits, as the answer and the output.
use Rattle.std.proofs.Common.{ℕ, ◌+◌, ◌-◌, ◌^◌, ◌<◌, ◌≡◌, refl, sym, ap, ◌∙◌, arith, true, false, cond, List, length, leb}
use Rattle.std.proofs.lemmas.Bool.{leb-true, leb-false}
use borrow.Author.Tests.{eq-eqb, ne_eqb}
use Rattle.words.specs.Words.{same_of}
use Rattle.compress.specs.Block.{initial_of}
use Rattle.compress.specs.declared.Width.{Width}
use Rattle.ripemd.specs.Answers.{Answer, Fed, of_fault, of_refusal, plain, unindexed}
use Rattle.ripemd.specs.Digest.{digest_length}
use Rattle.ripemd.specs.Feed.{fed_state, feed_of}
use Rattle.ripemd.specs.Finish.{digest_of, finish_number, finish_bytes, one_shot_number, one_shot_bytes}
use Rattle.ripemd.specs.Record.{record_length, record_of, export_number, export_bytes, words_in, count_in, import_number, import_of}
use Rattle.ripemd.specs.State.{taken_of, fault_of, index_of, answer_of, between, fresh_of, wrong_start}
use Rattle.ripemd.specs.declared.State.{State}
use Rattle.ripemd.specs.declared.refusals.Fault.{Fault}
use Rattle.ripemd.specs.declared.refusals.Fault.TheVariants.{Fill, Count, Tail, Spare, Start}
use Rattle.ripemd.specs.declared.refusals.Refusal.{Refusal}
use Rattle.ripemd.specs.declared.refusals.Refusal.TheVariants.{Faulty, TooLong, MidBlock, OutputLength, RecordLength, TooMany, WrongStart}
use Rattle.ripemd.proofs.Outcomes.{accepted, refused}
use Rattle.ripemd.proofs.Calls.{feed_fault, finish_fault, export_fault, feed_takes, feed_long, finish_right, export_right, export_part}
use Rattle.ripemd.proofs.Starts.{start_past, start_now}
use Rattle.ripemd.proofs.Well.{well}

-- no fault has the number 0
pub fault_numbered : (f : Fault) → (of_fault f).number ≡ 0 → ⊥
fault_numbered Fill e = omega arith
fault_numbered Count e = omega arith
fault_numbered (Tail i) e = omega arith
fault_numbered (Spare i) e = omega arith
fault_numbered Start e = omega arith

-- no refusal has the number 0
pub refusal_numbered : (r : Refusal) → (of_refusal r).number ≡ 0 → ⊥
refusal_numbered (Faulty f) e = fault_numbered f e
refusal_numbered TooLong e = omega arith
refusal_numbered MidBlock e = omega arith
refusal_numbered OutputLength e = omega arith
refusal_numbered RecordLength e = omega arith
refusal_numbered TooMany e = omega arith
refusal_numbered WrongStart e = omega arith

-- a state with a fault
module _ (s : State) (f : Fault) (e : of_fault f ≡ answer_of s (fault_of s)) where
  faulty : fault_of s ≡ 0 → ⊥
  faulty z = fault_numbered f (ap (λ (a : Answer). a.number) e ∙ z)

  pub feed_faulty : (p : List ℕ) → ◌≡◌ {A = Fed} (record { number = (of_fault f).number; state = s; index = (of_fault f).index }) (feed_of s p)
  feed_faulty p = ap (λ (a : Answer). record { number = a.number; state = s; index = a.index }) e ∙ sym (feed_fault s faulty p)

  pub finish_faulty : (o : List ℕ) → (of_fault f ≡ answer_of s (finish_number s (length o))) × (o ≡ finish_bytes s o)
  unfolding finish_bytes
  finish_faulty o =
      let n = finish_fault s faulty (length o) in
      (e ∙ ap (answer_of s) (sym n), sym (refused _ (digest_of s) o (λ q. faulty (sym n ∙ q))))

  pub export_faulty : (o : List ℕ) → (of_fault f ≡ answer_of s (export_number s (length o))) × (o ≡ export_bytes s o)
  unfolding export_bytes
  export_faulty o =
      let n = export_fault s faulty (length o) in
      (e ∙ ap (answer_of s) (sym n), sym (refused _ (record_of s) o (λ q. faulty (sym n ∙ q))))

-- and one with none
module _ (s : State) (z : fault_of s ≡ 0) where
  -- t is what was taken, and the test of the sum what was made of it
  module _ (p : List ℕ) (t : ℕ) (e : t ≡ taken_of s) where
    pub feed_short : leb (2 ^ 61 - t) (length p) ≡ false → taken_of s + length p < 2 ^ 61
    feed_short h =
        let w = well s z in
        let l = leb-false (2 ^ 61 - t) (length p) h in
        omega arith

    pub feed_over : leb (2 ^ 61 - t) (length p) ≡ true → ◌≡◌ {A = Fed} (record { number = 1; state = s; index = 0 }) (feed_of s p)
    feed_over h =
        let l = leb-true (2 ^ 61 - t) (length p) h in
        sym (feed_long s z p (omega arith))

    pub feed_done : leb (2 ^ 61 - t) (length p) ≡ false → (r : State) → r ≡ fed_state s p
        → ◌≡◌ {A = Fed} (record { number = 0; state = r; index = 0 }) (feed_of s p)
    feed_done h r q = rw (feed_takes s z p (feed_short h), q) refl

  module _ (o : List ℕ) where
    pub finish_other : (length o ≡ digest_length s.width → ⊥) → (plain 3 ≡ answer_of s (finish_number s (length o))) × (o ≡ finish_bytes s o)
    unfolding finish_number finish_bytes index_of
    finish_other h = rw (z, ne_eqb (length o) (digest_length s.width) h) (refl, refl)

    pub finish_done : length o ≡ digest_length s.width → (plain 0 ≡ answer_of s (finish_number s (length o))) × (digest_of s ≡ finish_bytes s o)
    unfolding finish_bytes index_of
    finish_done h =
        let n = finish_right s z (length o) h in
        (ap (answer_of s) (sym n), sym (accepted _ (digest_of s) o n))

    pub export_other : (length o ≡ record_length s.width → ⊥) → (plain 3 ≡ answer_of s (export_number s (length o))) × (o ≡ export_bytes s o)
    unfolding export_number export_bytes index_of
    export_other h = rw (z, ne_eqb (length o) (record_length s.width) h) (refl, refl)

    module _ (l : length o ≡ record_length s.width) where
      pub export_pending : (s.fill ≡ 0 → ⊥) → (plain 2 ≡ answer_of s (export_number s (length o))) × (o ≡ export_bytes s o)
      unfolding export_bytes index_of
      export_pending f =
          let n = export_part s z (length o) l f in
          (ap (answer_of s) (sym n), sym (refused (export_number s (length o)) (record_of s) o (λ q. omega (arith, n, q))))

      pub export_done : s.fill ≡ 0 → (plain 0 ≡ answer_of s (export_number s (length o))) × (record_of s ≡ export_bytes s o)
      unfolding export_bytes index_of
      export_done f =
          let n = export_right s z (length o) l f in
          (ap (answer_of s) (sym n), sym (accepted _ (record_of s) o n))

module _ (w : Width) (m o : List ℕ) where
  pub shot_other : (length o ≡ digest_length w → ⊥) → (plain 3 ≡ plain (one_shot_number w (length m) (length o))) × (o ≡ one_shot_bytes w m o)
  unfolding one_shot_number one_shot_bytes
  shot_other h = rw (ne_eqb (length o) (digest_length w) h) (refl, refl)

  pub shot_long : length o ≡ digest_length w → leb (2 ^ 61) (length m) ≡ true → (plain 1 ≡ plain (one_shot_number w (length m) (length o))) × (o ≡ one_shot_bytes w m o)
  unfolding one_shot_number one_shot_bytes
  shot_long h l = rw (eq-eqb (length o) (digest_length w) h, l) (refl, refl)

-- a record: h are the words in it, and n the count
module _ (w : Width) (r : List ℕ) where
  pub import_other : (length r ≡ record_length w → ⊥) → record { number = 4; state = fresh_of w; index = 0 } ≡ unindexed (import_of w r)
  unfolding import_of import_number
  import_other h = rw (ne_eqb (length r) (record_length w) h)

  module _ (l : length r ≡ record_length w) (n : ℕ) (c : count_in w r ≡ n) where
    pub import_high : leb (2 ^ 55) n ≡ true → record { number = 5; state = fresh_of w; index = 0 } ≡ unindexed (import_of w r)
    unfolding import_of import_number
    import_high h = rw (eq-eqb (length r) (record_length w) l, c, h)

    module _ (few : leb (2 ^ 55) n ≡ false) (h : List ℕ) (e : words_in w r ≡ h) where
      last : import_number w r ≡ cond (wrong_start w h n) 7 0
      unfolding import_number
      last = rw (eq-eqb (length r) (record_length w) l, c, few, e)

      pub import_start : n ≡ 0 → same_of h (initial_of w) ≡ false → record { number = 7; state = fresh_of w; index = 0 } ≡ unindexed (import_of w r)
      unfolding import_of
      import_start z q = rw (last, start_now w h n z, q)

      pub import_fresh : n ≡ 0 → same_of h (initial_of w) ≡ true → record { number = 0; state = between w h n; index = 0 } ≡ unindexed (import_of w r)
      unfolding import_of
      import_fresh z q = rw (last, start_now w h n z, q, e, c)

      pub import_later : (n ≡ 0 → ⊥) → record { number = 0; state = between w h n; index = 0 } ≡ unindexed (import_of w r)
      unfolding import_of
      import_later q = rw (last, start_past w h n q, e, c)
