-- THE STATE SHEET. Numbers and place of write and read, exactly, as demand 1 has them of the other calls; and a state and its sheet, one for one.
-- The numbers of write and the place are in proofs/Sheets.antt.
-- Assumes nothing.
use Rattle.std.specs.Prelude.{ℕ, ◌-◌, ◌^◌, ◌≤◌, ◌≡◌, true, false, not, List, [], ◌∷◌, length, drop, replicate}
use Rattle.std.proofs.Common.{ap, sym, ◌∙◌, true≢false, ⊎_elim, arith, ne_eqb, length-drop}
use Rattle.std.proofs.lemmas.Bool.{not-true, not-false}
use Rattle.words.specs.Bytes.{Below}
use Rattle.compress.specs.Block.{used_of, initial_of}
use Rattle.compress.specs.declared.Width.TheVariants.{W160}
use Rattle.ripemd.specs.Refusals.{Row, ◌when◌}
use Rattle.ripemd.specs.State.{WellFormed, fault_of, fresh_of}
use Rattle.ripemd.specs.declared.State.{State}
use Rattle.ripemd.proofs.Well.{well, no_fault}
use Rattle.ripemd.proofs.Zeros.{zeros_are}
use Rattle.ripemd.proofs.Outcomes.{accepted, refused}
use Rattle.ripemd.proofs.Kept.{Sound}
use Rattle.sheet.specs.Sheet.{Shaped, sheet_of, length_of, write_number, write_bytes}
use Rattle.sheet.specs.Reading.{is_sheet, state_with, state_in, held_rows, read_number, read_of}
use Rattle.sheet.specs.Answers.{Readout}
use Rattle.sheet.proofs.Written.{length_is}
use Rattle.sheet.proofs.Places.{shaped_or_not}
use Rattle.sheet.proofs.Again.{state_in_lem, read_sheet, accepted_sheet}
use Rattle.demands.specs.Numbers.{number, nothing, Given, Other, Decides, no_row, one_row, given}
use Rattle.demands.specs.Rows.{least_row, start_row}

pub write_done : (s : State) (o : List ℕ) → write_number s (length o) ≡ 0 → write_bytes s o ≡ sheet_of s
unfolding write_bytes
write_done s o e = accepted (write_number s (length o)) (sheet_of s) o e

pub write_refused : (s : State) (o : List ℕ) → ¬ (write_number s (length o) ≡ 0) → write_bytes s o ≡ o
unfolding write_bytes
write_refused s o n = refused (write_number s (length o)) (sheet_of s) o n

-- sheet_length is what write needs, and 0 where the state isn't well formed
pub length_needed : (s : State) → (WellFormed s → length_of s ≡ length (sheet_of s)) × ((¬ WellFormed s) → length_of s ≡ 0)
unfolding length_of
length_needed s = (
  λ w. length_is s (no_fault s w),
  λ n. refused (fault_of s) (length (sheet_of s)) 0 (λ e. n (well s e)),
)

-- ---- read: 8 for a wrong shape, then 5 for a count of 2^55 or more, then 7 for a count of 0 with words other than the initial ones
shape_row : (l : List ℕ) (rs : List Row) (rest : Type 0 → ℕ → Type 0) → Other rs 8 → Decides rs rest
    → Decides ((8 when not (is_sheet l)) ∷ rs) (number 8 (¬ Shaped l) rest)
shape_row l rs rest = one_row 8 (not (is_sheet l)) (¬ Shaped l) rs rest wrong right
  where
    wrong : not (is_sheet l) ≡ true → ¬ Shaped l
    wrong e k =
        ⊎_elim
        (λ h. true≢false (sym h.1 ∙ not-true (is_sheet l) e))
        (λ h. h.0 k)
        (shaped_or_not l)

    right : not (is_sheet l) ≡ false → ¬ (¬ Shaped l)
    right e n =
        ⊎_elim
        (λ h. n h.0)
        (λ h. true≢false (sym (not-false (is_sheet l) e) ∙ h.1))
        (shaped_or_not l)

pub read_numbers : (l : List ℕ)
    → Given (8 ∷ 5 ∷ 7 ∷ 0 ∷ [])
    (number 8 (¬ Shaped l)
    (number 5 (2 ^ 55 ≤ (state_in l).count.0)
    (number 7 (((state_in l).count.0 ≡ 0) × (¬ ((state_in l).words ≡ initial_of (state_in l).width))) nothing)))
    (read_of l).number
unfolding read_of read_number
read_numbers l =
    let s = state_in l in
    given (
    shape_row l (held_rows s) _ (λ e. omega arith, (λ e. omega arith, λ e. omega arith))
    (least_row 5 (2 ^ 55) s.count.0 _ _ (λ e. omega arith, λ e. omega arith)
    (start_row 7 s.width s.words s.count.0 [] nothing (λ e. omega arith) no_row)))

-- what those rows speak of: the state that a text of right shape is the sheet of
pub read_state : (l : List ℕ) (k : Shaped l) → state_in l ≡ state_with k.width k.count k.words k.tail
read_state l k = state_in_lem l k

-- with every other number the place is 0
pub read_no_place : (l : List ℕ) → ¬ ((read_of l).number ≡ 8) → (read_of l).place ≡ 0
unfolding read_of
read_no_place l n = rw (ne_eqb (read_number l) 8 n)

-- refused, a fresh 160
pub read_refused : (l : List ℕ) → ¬ ((read_of l).number ≡ 0) → (read_of l).state ≡ fresh_of W160
unfolding read_of
read_refused l n = refused (read_number l) (state_in l) (fresh_of W160) n

-- ---- a state and its sheet
-- what the type of a state says of every state: ten words of 32 bits, and a tail of 64 bytes
pub record Typed (s : State) : Type 0 where
  pub words_long : length s.words ≡ 10
  pub words_are : Below (2 ^ 32) s.words
  pub tail_long : length s.tail ≡ 64
  pub tail_are : Below 256 s.tail

sound : (s : State) → Typed s → WellFormed s → Sound s
sound s t w =
    let d = drop (used_of s.width) s.words in
    let l : length d ≡ 10 - used_of s.width = length-drop (used_of s.width) s.words ∙ omega (arith, t.words_long) in
    record {
      well = w;
      tail = t.tail_long;
      words = record {
        long = t.words_long;
        below = t.words_are;
        spare = zeros_are d w.spare ∙ ap (λ (n : ℕ). replicate n 0) l;
      };
      bytes = t.tail_are;
    }

-- the sheet of a well-formed state is read as that state
pub sheet_read : (s : State) → Typed s → WellFormed s → read_of (sheet_of s) ≡ record { number = 0; place = 0; state = s }
sheet_read s t w = read_sheet s (sound s t w)

-- an accepted text is the sheet of the state that it gives
pub sheet_same : (l : List ℕ) → (read_of l).number ≡ 0 → sheet_of (read_of l).state ≡ l
sheet_same l e = (accepted_sheet l e).0

-- so no two states have one sheet
pub one_state : (s t : State) → Typed s → WellFormed s → Typed t → WellFormed t → sheet_of s ≡ sheet_of t → s ≡ t
one_state s t a b c d e = ap (λ (r : Readout). r.state) (sym (sheet_read s a b) ∙ ap read_of e ∙ sheet_read t c d)

-- and no two accepted texts give one state
pub one_sheet : (l m : List ℕ) → (read_of l).number ≡ 0 → (read_of m).number ≡ 0 → (read_of l).state ≡ (read_of m).state → l ≡ m
one_sheet l m p q e = sym (sheet_same l p) ∙ ap sheet_of e ∙ sheet_same m q
