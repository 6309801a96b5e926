-- What the program writes: one line.
-- Assumes nothing.
use Rattle.std.specs.Prelude.{ℕ, suc, cond, List, ◌++◌, count_by, eqb, take, Result, Ok, Err}
use Rattle.ripemd.specs.State.{taken_of}
use Rattle.ripemd.specs.declared.State.{State}
use Rattle.text.specs.Text.{ascii, decimal_of}
use Rattle.sheet.specs.Sheet.{name_of}
use Rattle.sheet.specs.Reading.{read_of}
use Rattle.sheet.specs.Answers.{Readout}

-- how many line feeds a text has
unfoldable pub feeds_of : List ℕ → ℕ
feeds_of l = count_by (λ x. eqb x 10) l

-- the line, counted from 1, of the byte at a place: one more than the line feeds before it
unfoldable pub line_at : ℕ → List ℕ → ℕ
line_at n l = suc (feeds_of (take n l))

-- what a state has taken: bytes in all, whole blocks, and the bytes behind them
unfoldable pub held_line : State → List ℕ
held_line s =
    ascii "width=" ++ name_of s.width
    ++ ascii " bytes=" ++ decimal_of (taken_of s)
    ++ ascii " blocks=" ++ decimal_of s.count.0
    ++ ascii " fill=" ++ decimal_of s.fill
    ++ ascii "\n"

-- a place where a text leaves every sheet, and its line
unfoldable pub place_line : ℕ → ℕ → List ℕ
place_line p n = ascii "error=8 place=" ++ decimal_of p ++ ascii " line=" ++ decimal_of n ++ ascii "\n"

-- for what reading gave the text l: its state where it is accepted; else 8 with the place, 5 with the line of the blocks, or 7, the only number
-- left, with the line of the words
unfoldable pub line_for : List ℕ → Readout → List ℕ
line_for l r =
    cond (eqb r.number 0) (held_line r.state)
    (cond (eqb r.number 8) (place_line r.place (line_at r.place l))
    (cond (eqb r.number 5) (ascii "error=5 line=2\n") (ascii "error=7 line=3\n")))

-- for a text
abbrev pub read_line : List ℕ → List ℕ
read_line l = line_for l (read_of l)

-- the line for what was read, or that of an error where a read failed
abbrev pub ended_of : {T E : Type 0} → (T → List ℕ) → Result T E → List ℕ
ended_of line (Ok x) = line x
ended_of line (Err _) = ascii "error=read\n"

-- what is written for what reading kept
abbrev pub written_of : {E : Type 0} → Result (List ℕ) E → List ℕ
written_of r = ended_of read_line r

-- the same for the message that was read
unfoldable pub answer_of : {T E : Type 0} → Result T E → List ℕ → List ℕ
answer_of r m = ended_of (λ _. read_line m) r
