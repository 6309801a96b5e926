-- The answer for a message is that for its first 256 bytes.
-- Assumes nothing.
use Prim.Native.Nat.{ℕ, ◌≤◌}
use mathlib.Core.Path.{◌≡◌, refl, ap, sym, ◌∙◌}
use mathlib.Core.Bool.{Bool, true, false}
use mathlib.Core.List.{List}
use native.Mathlib.Omega.{arith}
use borrow.Author.Tests.{leb-true, leb-false, ltb-false}
use lib.Dec.{leb}
use lib.ListN.{length, take, drop, take-append-drop}
use lib.Seq.{take_all, take-take, take-append-le, length-take-le}
use Rattle.std.proofs.Common.{◌<◌, ◌++◌, append-nil, Option, None, Some, IfSome, Result, Ok, Err, IfOk}
use Rattle.std.specs.Io.KnownBytes.{Consumes, IsAtEnd}
use Rattle.std.specs.declared.io.Error.{Error}
use Rattle.ripemd.specs.State.{fault_of}
use Rattle.ripemd.specs.declared.State.{State}
use Rattle.ripemd.specs.declared.refusals.Refused.{Refused}
use Rattle.ripemd.proofs.Kept.{sound_fine}
use Rattle.sheet.specs.declared.misread.Misread.{Misread}
use Rattle.sheet.specs.declared.misread.Misread.TheVariants.{Shape}
use Rattle.sheet.proofs.Again.{accepted_sheet}
use Rattle.shape.specs.Shape.{reach}
use Rattle.sheet.specs.Reading.{sheet_shape, is_sheet, held, read_of}
use Rattle.sheet.specs.Answers.{Readout, misread_place, read_told}
use Rattle.sheet.proofs.Answers.{read_right, read_wrong}
use Rattle.sheet.proofs.Places.{read_front}
use Rattle.readsheet.specs.Lines.{line_at, line_for, read_line, written_of, answer_of}
use Rattle.readsheet.specs.Reading.{Heard}

-- a place is in the text, or at its end
pub place_in : (l : List ℕ) → (read_of l).place ≤ length l
unfolding held
place_in l = by_test (is_sheet l) refl
  where
    by_test : (b : Bool) → is_sheet l ≡ b → (read_of l).place ≤ length l
    by_test true e = rw (read_right l e) (omega arith)
    by_test false e = rw (read_wrong l e) (ltb-false (length l) (reach sheet_shape l) e)

-- as that of a refusal is
pub misread_in : (l : List ℕ) (r : Refused Misread) (p : ℕ) → read_told (Err r) ≡ read_of l → r.refusal ≡ Shape p → p ≤ length l
misread_in l r p e h = omega (arith, place_in l, ap (λ (x : Readout). x.place) e, ap misread_place h)

-- a state that is read is well formed
pub read_fine : (l : List ℕ) (s : State) → read_told (Ok s) ≡ read_of l → fault_of s ≡ 0
read_fine l s e =
    let k = accepted_sheet l (sym (ap (λ (x : Readout). x.number) e)) in
    ap (λ (x : Readout). fault_of x.state) e ∙ sound_fine k.1

line_front : (l : List ℕ) (r : Readout) → r.place ≤ 256 → line_for l r ≡ line_for (take 256 l) r
unfolding line_for line_at
line_front l r h = rw (take-take r.place 256 l h)

front_read : (m : List ℕ) → read_line m ≡ read_line (take 256 m)
front_read m = by_test (leb (length m) 256) refl
  where
    by_test : (b : Bool) → leb (length m) 256 ≡ b → read_line m ≡ read_line (take 256 m)
    by_test true e = ap read_line (sym (take_all 256 m (leb-true (length m) 256 e)))
    by_test false e =
        let l = leb-false (length m) 256 e in
        let n : length (take 256 m) ≡ 256 = length-take-le 256 m (omega arith) in
        let f : read_of m ≡ read_of (take 256 m) =
        ap read_of (sym (take-append-drop 256 m)) ∙ read_front (take 256 m) (drop 256 m) (omega arith)
        in
        ap (line_for m) f ∙ line_front m (read_of (take 256 m)) (omega (arith, place_in (take 256 m)))

-- what was read, to the end or to 256 bytes, begins as all that the reader had
all_begins : (P : List ℕ → Type 0) (old new : Option (List ℕ)) (m : List ℕ) → Consumes old new m → (length m < 256 → IsAtEnd new)
    → ((l : List ℕ) → take 256 l ≡ take 256 m → P l) → IfSome old P
all_begins P None new m q z h = tt
all_begins P (Some l) None m q z h = absurd q
all_begins P (Some l) (Some ys) m q z h = h l (by_test (leb 256 (length m)) refl)
  where
    by_test : (b : Bool) → leb 256 (length m) ≡ b → take 256 l ≡ take 256 m
    by_test true e = ap (take 256) q ∙ take-append-le 256 m ys (leb-true 256 (length m) e)
    by_test false e = ap (take 256) (q ∙ ap (λ (r : List ℕ). m ++ r) (z (leb-false 256 (length m) e)) ∙ append-nil m)

-- what is written for what was kept is the answer for the message, and for all that the reader had
module _ (old new : Option (List ℕ)) where
  pub answers : (r : Result (List ℕ) Error) (h : Heard old new r) (m : List ℕ) → take 256 m ≡ take 256 h.message
      → written_of r ≡ answer_of r m
  unfolding answer_of
  answers (Ok k) h m e = ap read_line (h.kept.0 ∙ sym e) ∙ sym (front_read m)
  answers (Err x) h m e = refl

  pub whole : (r : Result (List ℕ) Error) (h : Heard old new r) → IfOk r (λ _. IfSome old (λ l. written_of r ≡ answer_of r l))
  whole (Ok k) h = all_begins _ old new h.message h.read h.kept.1 (answers (Ok k) h)
  whole (Err x) h = tt

pub ruleset read_steps = (read_fine, misread_in)
