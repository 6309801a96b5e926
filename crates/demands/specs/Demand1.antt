-- DEMAND 1. Each call gives the scope's numbers exactly where the scope says, in its order, and no other. A refused call hands back the
-- state that it got (a refused import: a fresh one of the width asked) and every byte of its output as it was.
-- That every call ends and is defined for all input is what the prover says of each function without a `requires`.
-- The numbers of feed, finish and export, which rest on a state's faults, are in proofs/Demand1.antt, and what numbers there are in proofs/Listed.antt.
-- Assumes nothing.
use Rattle.std.specs.Prelude.{ℕ, ◌^◌, ◌≤◌, ◌≡◌, refl, List, [], ◌∷◌, length, replicate}
use Rattle.std.proofs.Common.{arith}
use Rattle.compress.specs.Block.{initial_of}
use Rattle.compress.specs.declared.Width.{Width}
use Rattle.compress.specs.declared.Width.TheVariants.{W128, W160, W256, W320}
use Rattle.ripemd.specs.State.{wrong_start, fresh_of, between}
use Rattle.ripemd.specs.Feed.{feed_number, feed_of, fed_state}
use Rattle.ripemd.specs.Digest.{digest_length, published}
use Rattle.ripemd.specs.Finish.{digest_of, finish_number, finish_bytes, one_shot_number, one_shot_bytes}
use Rattle.ripemd.specs.Record.{record_length, record_of, words_in, count_in, export_number, export_bytes, import_number, import_of}
use Rattle.ripemd.specs.declared.State.{State}
use Rattle.ripemd.proofs.Outcomes.{refused}
use Rattle.demands.specs.Numbers.{number, nothing, Given, no_row, given}
use Rattle.demands.specs.Rows.{equal_row, least_row, start_row}

-- ---- the calls
pub feed_refused : (s : State) (p : List ℕ) → ¬ ((feed_of s p).number ≡ 0) → (feed_of s p).state ≡ s
unfolding feed_of
feed_refused s p n = refused (feed_number s p) (fed_state s p) s n

pub finish_refused : (s : State) (o : List ℕ) → ¬ (finish_number s (length o) ≡ 0) → finish_bytes s o ≡ o
unfolding finish_bytes
finish_refused s o n = refused (finish_number s (length o)) (digest_of s) o n

pub export_refused : (s : State) (o : List ℕ) → ¬ (export_number s (length o) ≡ 0) → export_bytes s o ≡ o
unfolding export_bytes
export_refused s o n = refused (export_number s (length o)) (record_of s) o n

-- import: 4 for a record of another length, then 5 for a count of 2^55 or more, then 7 for a count of 0 with words other than the initial ones
pub import_numbers : (w : Width) (r : List ℕ)
    → Given (4 ∷ 5 ∷ 7 ∷ 0 ∷ [])
    (number 4 (¬ (length r ≡ record_length w))
    (number 5 (2 ^ 55 ≤ count_in w r) (number 7 ((count_in w r ≡ 0) × (¬ (words_in w r ≡ initial_of w))) nothing)))
    (import_of w r).number
unfolding import_of import_number
import_numbers w r =
    given (
    equal_row 4 (length r) (record_length w) _ _ (λ e. omega arith, (λ e. omega arith, λ e. omega arith))
    (least_row 5 (2 ^ 55) (count_in w r) _ _ (λ e. omega arith, λ e. omega arith)
    (start_row 7 w (words_in w r) (count_in w r) [] nothing (λ e. omega arith) no_row)))

pub import_refused : (w : Width) (r : List ℕ) → ¬ ((import_of w r).number ≡ 0) → (import_of w r).state ≡ fresh_of w
unfolding import_of
import_refused w r n = refused (import_number w r) (between w (words_in w r) (count_in w r)) (fresh_of w) n

-- a record that was wiped to zeros
pub wiped_record : (w : Width) → (import_of w (replicate (record_length w) 0)).number ≡ 7
unfolding import_of import_number wrong_start
wiped_record W128 = refl
wiped_record W160 = refl
wiped_record W256 = refl
wiped_record W320 = refl

-- one_shot: 3, then 1 for a message of 2^61 bytes or more
pub one_shot_numbers : (w : Width) (m o : List ℕ)
    → Given (3 ∷ 1 ∷ 0 ∷ []) (number 3 (¬ (length o ≡ digest_length w)) (number 1 (2 ^ 61 ≤ length m) nothing)) (one_shot_number w (length m) (length o))
unfolding one_shot_number
one_shot_numbers w m o =
    given (
    equal_row 3 (length o) (digest_length w) _ _ (λ e. omega arith, λ e. omega arith)
    (least_row 1 (2 ^ 61) (length m) [] nothing (λ e. omega arith) no_row))

pub one_shot_refused : (w : Width) (m o : List ℕ) → ¬ (one_shot_number w (length m) (length o) ≡ 0) → one_shot_bytes w m o ≡ o
unfolding one_shot_bytes
one_shot_refused w m o n = refused (one_shot_number w (length m) (length o)) (published w m) o n
