-- Laws of the message that was read.
use Rattle.std.proofs.Common.{ℕ, ◌+◌, ◌^◌, ◌≤◌, ◌<◌, ◌≡◌, refl, ap, ◌∙◌, arith}
use Rattle.std.proofs.Common.{Bool, true, false, Option, None, Some, Result, Ok, Err, IfOk, IfSome}
use Rattle.std.proofs.Common.{List, [], ◌∷◌, ◌++◌, length, append-nil, length-append, length-take, take, leb}
use Rattle.std.proofs.lemmas.Bool.{leb-true, leb-false}
use Rattle.std.proofs.KnownBytes.{Consumes-nil, Consumes-trans, Consumes-kept, Consumes-whole}
use Rattle.std.specs.Io.KnownBytes.{Keeps, Consumes, IsAtEnd, ReadConsumes}
use Rattle.std.specs.declared.io.Error.{Error}
use Rattle.compress.specs.Block.{blocks_of}
use Rattle.compress.specs.declared.Width.TheVariants.{W160}
use Rattle.ripemd.specs.Digest.{published}
use Rattle.ripemd.specs.Feed.{fed_state, feed_of}
use Rattle.ripemd.specs.Finish.{digest_of}
use Rattle.ripemd.specs.State.{taken_of, fault_of, fresh_of}
use Rattle.ripemd.specs.declared.State.{State}
use Rattle.ripemd.proofs.Calls.{feed_takes, feed_long, fed_fine, fed_ends}
use Rattle.ripemd.proofs.Cuts.{fed_twice}
use Rattle.ripemd.proofs.Kept.{fresh_sound, fed_width, fed_taken}
use Rattle.rmd160.proofs.Turns.{fed_piece}
use Rattle.rmd160.specs.Lines.{three_lines, lines_of, written_of, answer_of}
use Rattle.rmd160.specs.Reading.{fed_turn, piece_turn, turn_of, Took, Ended, Heard}
use Rattle.rmd160.specs.declared.Failure.{Failure}
use Rattle.rmd160.specs.declared.Failure.TheVariants.{Read, Length}

module _ (m : List ℕ) (s : State) (k : Took m s) where
  pub fault : fault_of s ≡ 0
  fault = ap fault_of k.is ∙ fed_fine W160 m k.short

  pub width : s.width ≡ W160
  width = ap (λ (t : State). t.width) k.is ∙ fed_width (fresh_of W160) m

  pub taken : taken_of s ≡ length m
  taken = ap taken_of k.is ∙ omega (arith, fed_taken (fresh_of W160) m (fresh_sound W160))

  -- the lines of the state are those of the message
  pub lines : lines_of s ≡ three_lines (length m) (published W160 m)
  unfolding lines_of
  lines =
      let d : digest_of s ≡ published W160 m = ap digest_of k.is ∙ fed_ends W160 m k.short in
      rw (taken, d)

  -- a piece is taken, or makes the message too long
  module _ (p : List ℕ) where
    fed_more : taken_of s + length p < 2 ^ 61 → Took (m ++ p) (fed_state s p)
    fed_more l =
        let z = fresh_sound W160 in
        record {
          short = omega (arith, taken, length-append m p);
          is = ap (λ (t : State). fed_state t p) k.is ∙ fed_twice (fresh_of W160) m p z.tail z.well.fill;
        }

    taken_turn : taken_of s + length p < 2 ^ 61 → fed_turn (feed_of s p) ≡ Ok (Some (fed_state s p))
    taken_turn l = ap fed_turn (feed_takes s fault p l)

    long_turn : 2 ^ 61 ≤ taken_of s + length p → fed_turn (feed_of s p) ≡ Err Length
    long_turn l = ap fed_turn (feed_long s fault p l)

-- s has taken all that was read
pub record Reads (old new : Option (List ℕ)) (s : State) : Type 0 where
  pub message : List ℕ
  pub took : Took message s
  pub read : Consumes old new message

pub begun : (a : Option (List ℕ)) → Reads a a (fresh_of W160)
unfolding fed_state blocks_of
begun a = record { message = []; took = record { short = omega arith; is = refl }; read = Consumes-nil a }

-- what tells the cases of what follows a read
abbrev kind : Result (Option State) Failure → ℕ
kind (Err f) = 0
kind (Ok None) = 1
kind (Ok (Some t)) = 2

abbrev why : Result (Option State) Failure → Failure
why (Err f) = f
why (Ok t) = Read

abbrev next : State → Result (Option State) Failure → State
next s (Ok (Some t)) = t
next s (Ok None) = s
next s (Err f) = s

module _ (a b c : Option (List ℕ)) (s : State) (h : Reads a b s) where
  -- after a read that gave the piece p
  module _ (p : List ℕ) (q : Consumes b c p) where
    -- there was none, or it makes the message too long, or it is taken
    cases : (P : Type 0) → (p ≡ [] → piece_turn s p ≡ Ok None → P)
        → (2 ^ 61 ≤ length h.message + length p → piece_turn s p ≡ Err Length → P)
        → (0 < length p → Took (h.message ++ p) (fed_state s p) → piece_turn s p ≡ Ok (Some (fed_state s p)) → P) → P
    cases P none long some = by_piece p refl
      where
        by_test : (z : Bool) → leb (2 ^ 61) (taken_of s + length p) ≡ z → 0 < length p → P
        by_test true z l =
            let n = leb-true (2 ^ 61) (taken_of s + length p) z in
            long (omega (arith, n, taken h.message s h.took)) (fed_piece s p l ∙ long_turn h.message s h.took p n)
        by_test false z l =
            let n = leb-false (2 ^ 61) (taken_of s + length p) z in
            some l (fed_more h.message s h.took p n) (fed_piece s p l ∙ taken_turn h.message s h.took p n)

        by_piece : (l : List ℕ) → p ≡ l → P
        by_piece [] g = none g (ap (piece_turn s) g)
        by_piece (x ∷ l) g = by_test (leb (2 ^ 61) (taken_of s + length p)) refl (omega (arith, ap length g))

    all : Consumes a c (h.message ++ p)
    all = Consumes-trans a b c h.message p h.read q

    further : (t : State) → Ok (Some t) ≡ piece_turn s p → Reads a c t × (taken_of s < taken_of t)
    further t e =
        cases (Reads a c t × (taken_of s < taken_of t)) (λ g n. absurd (omega (arith, ap kind (e ∙ n)))) (λ g n. absurd (omega (arith, ap kind (e ∙ n))))
        (λ l k n.
        let u : t ≡ fed_state s p = ap (next s) (e ∙ n) in
        rw u (
          record { message = h.message ++ p; took = k; read = all },
          omega (arith, l, taken h.message s h.took, taken (h.message ++ p) (fed_state s p) k, length-append h.message p),
        ))

    over : (f : Failure) → Err f ≡ piece_turn s p → length p ≤ 4096 → Heard a c (Err f)
    over f e room =
        cases (Heard a c (Err f)) (λ g n. absurd (omega (arith, ap kind (e ∙ n))))
        (λ l n.
        let u : f ≡ Length = ap why (e ∙ n) in
        rw u record { message = h.message; piece = p; short = h.took.short; room = room; read = all; ended = l })
        (λ l k n. absurd (omega (arith, ap kind (e ∙ n))))

    at_end : Ok None ≡ piece_turn s p → (p ≡ [] → IsAtEnd c) → Heard a c (Ok s)
    at_end e end =
        cases (Heard a c (Ok s))
        (λ g n.
        record {
          message = h.message;
          piece = p;
          short = h.took.short;
          room = omega (arith, ap length g);
          read = all;
          ended = (h.took, g, end g);
        })
        (λ l n. absurd (omega (arith, ap kind (e ∙ n)))) (λ l k n. absurd (omega (arith, ap kind (e ∙ n))))

  failed : (f : Failure) → ◌≡◌ {A = Result (Option State) Failure} (Err f) (Err Read) → Keeps b c → Heard a c (Err f)
  failed f e q =
      let u : f ≡ Read = ap why e in
      rw u
      record {
        message = h.message;
        piece = [];
        short = h.took.short;
        room = omega arith;
        read = all [] (Consumes-kept b b c [] (Consumes-nil b) q);
        ended = refl;
      }

  -- after a read with the buffer x
  module _ (x : List ℕ) (l : length x ≡ 4096) where
    pub went_on : (got : Result ℕ Error) → ReadConsumes b c got x → (t : State) → Ok (Some t) ≡ turn_of s got x → Reads a c t × (taken_of s < taken_of t)
    unfolding turn_of
    went_on (Ok n) q t e = further (take n x) q.0 t e
    went_on (Err y) q t e = absurd (omega (arith, ap kind e))

    pub stopped : (got : Result ℕ Error) → ReadConsumes b c got x → (f : Failure) → Err f ≡ turn_of s got x → Heard a c (Err f)
    unfolding turn_of
    stopped (Ok n) q f e = over (take n x) q.0 f e (omega (arith, length-take n x))
    stopped (Err y) q f e = failed f e q

    pub done : (got : Result ℕ Error) → ReadConsumes b c got x → Ok None ≡ turn_of s got x → Heard a c (Ok s)
    unfolding turn_of
    done (Ok n) q e = at_end (take n x) q.0 e (λ g. q.1 (omega (arith, ap length g, length-take n x, l)) (omega (arith, l)))
    done (Err y) q e = absurd (omega (arith, ap kind e))

module _ (m p : List ℕ) (new : Option (List ℕ)) where
  pub sound : (r : Result State Failure) → Ended m p new r → IfOk r (λ s. (fault_of s ≡ 0) × (s.width ≡ W160))
  sound (Ok s) e = (fault m s e.0, width m s e.0)
  sound (Err f) e = tt

  -- what is written for the state is the answer for the message
  pub written : (r : Result State Failure) → Ended m p new r → written_of r ≡ answer_of r m
  unfolding answer_of
  written (Ok s) e = lines m s e.0
  written (Err Read) e = refl
  written (Err Length) e = refl

  -- which at the end of the input is all of it
  pub whole : (old : Option (List ℕ)) (r : Result State Failure) → Consumes old new (m ++ p) → Ended m p new r
      → IfOk r (λ _. IfSome old (λ xs. written_of r ≡ answer_of r xs))
  whole old (Ok s) q e =
      let all : m ++ p ≡ m = rw e.1 (append-nil m) in
      Consumes-whole old new m (λ xs. written_of (Ok s) ≡ answer_of (Ok s) xs) (rw all at q) e.2 (written (Ok s) e)
  whole old (Err f) q e = tt

pub ruleset steps = begun
