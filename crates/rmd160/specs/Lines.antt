-- What the program writes.
-- Assumes nothing.
use Rattle.std.specs.Prelude.{ℕ, List, ◌++◌, length, Result, Ok, Err}
use Rattle.compress.specs.declared.Width.TheVariants.{W160}
use Rattle.ripemd.specs.State.{taken_of}
use Rattle.ripemd.specs.Digest.{published}
use Rattle.ripemd.specs.Finish.{digest_of}
use Rattle.ripemd.specs.declared.State.{State}
use Rattle.text.specs.Text.{ascii, decimal_of, hex_of}
use Rattle.rmd160.specs.declared.Failure.{Failure}
use Rattle.rmd160.specs.declared.Failure.TheVariants.{Read, Length}

-- the scope's three lines for n bytes with the digest d
abbrev pub three_lines : ℕ → List ℕ → List ℕ
three_lines n d = ascii "width=160\nbytes=" ++ decimal_of n ++ ascii "\ndigest=" ++ hex_of d ++ ascii "\n"

-- the lines for what was read where reading ended at the end of the input, else the line of an error alone
abbrev pub ended_of : {T : Type 0} → (T → List ℕ) → Result T Failure → List ℕ
ended_of lines (Ok x) = lines x
ended_of lines (Err Read) = ascii "error=read\n"
ended_of lines (Err Length) = ascii "error=length\n"

-- the lines of a state
unfoldable pub lines_of : State → List ℕ
lines_of s = three_lines (taken_of s) (digest_of s)

-- what is written for what reading gave
abbrev pub written_of : Result State Failure → List ℕ
written_of r = ended_of lines_of r

-- the same for the message that was read: the published digest
unfoldable pub answer_of : {T : Type 0} → Result T Failure → List ℕ → List ℕ
answer_of r m = ended_of (λ _. three_lines (length m) (published W160 m)) r
