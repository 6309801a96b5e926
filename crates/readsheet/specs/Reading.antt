-- What is known of what was read, and of the program's answer. `old` and `new` are the bytes that the reader has left before and after,
-- where these are known: of standard input no contract can say them.
-- Assumes nothing.
use Rattle.std.specs.Prelude.{ℕ, ◌-◌, ◌<◌, ◌≡◌, Bool, not, eqb, List, ◌++◌, Option, Result, Ok, Err, IfOk, IfSome, length, take}
use Rattle.std.specs.Io.KnownBytes.{Consumes, IsAtEnd}
use Rattle.std.specs.declared.io.Error.{Error}
use Rattle.readsheet.specs.Lines.{answer_of}

-- what follows a read, of n bytes at the front of its buffer or failed: whether it gave any, else the end of the input is reached; or the failure
unfoldable pub turn_of : Result ℕ Error → List ℕ → Result Bool Error
turn_of (Ok n) buffer = Ok (not (eqb (length (take n buffer)) 0))
turn_of (Err e) buffer = Err e

-- and what is kept then: the piece behind what was, as far as there is room
unfoldable pub keep_of : List ℕ → Result ℕ Error → List ℕ → List ℕ
keep_of k (Ok n) buffer = k ++ take (256 - length k) (take n buffer)
keep_of k (Err e) buffer = k

-- reading took some message, as far as 256 bytes or to the end of the input, and its first 256 bytes are kept
pub record Heard (old new : Option (List ℕ)) (r : Result (List ℕ) Error) : Type 0 where
  pub message : List ℕ
  pub read : Consumes old new message
  pub kept : IfOk r (λ k. (k ≡ take 256 message) × (length message < 256 → IsAtEnd new))

-- the text r is the answer for the message that reading took, and for every other with the same first 256 bytes: so, where no read failed,
-- for all that the reader had, since reading leaves nothing but what stands behind these
pub record Answered (old new : Option (List ℕ)) (r : List ℕ) : Type 0 where
  pub outcome : Result (List ℕ) Error
  pub heard : Heard old new outcome
  pub is : (m : List ℕ) → take 256 m ≡ take 256 heard.message → r ≡ answer_of outcome m
  pub whole : IfOk outcome (λ _. IfSome old (λ xs. r ≡ answer_of outcome xs))
