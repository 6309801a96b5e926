-- What is known of what was read, and of the program's answer. `old` and `new` are the bytes that the reader has left before and after,
-- where these are known: of standard input no contract can say them.
-- Assumes nothing.
use Rattle.std.specs.Prelude.{ℕ, ◌+◌, ◌^◌, ◌<◌, ◌≤◌, ◌≡◌, List, [], ◌∷◌, ◌++◌, cond, eqb, Option, None, Some, Result, Ok, Err, IfOk, IfSome, length, take}
use Rattle.std.specs.Io.KnownBytes.{Consumes, IsAtEnd}
use Rattle.std.specs.declared.io.Error.{Error}
use Rattle.compress.specs.declared.Width.TheVariants.{W160}
use Rattle.ripemd.specs.State.{fresh_of}
use Rattle.ripemd.specs.Answers.{Fed}
use Rattle.ripemd.specs.Feed.{fed_state, feed_of}
use Rattle.ripemd.specs.declared.State.{State}
use Rattle.rmd160.specs.Lines.{answer_of}
use Rattle.rmd160.specs.declared.Failure.{Failure}
use Rattle.rmd160.specs.declared.Failure.TheVariants.{Read, Length}

-- a piece that feed refuses makes the message too long
abbrev pub fed_turn : Fed → Result (Option State) Failure
fed_turn f = cond (eqb f.number 0) (Ok (Some f.state)) (Err Length)

-- a read that gives no byte is the end of the input
abbrev pub piece_turn : State → List ℕ → Result (Option State) Failure
piece_turn s [] = Ok None
piece_turn s (b ∷ bs) = fed_turn (feed_of s (b ∷ bs))

-- what follows a read, of n bytes at the front of its buffer or failed, whatever the reason
unfoldable pub turn_of : State → Result ℕ Error → List ℕ → Result (Option State) Failure
turn_of s (Ok n) buffer = piece_turn s (take n buffer)
turn_of s (Err e) buffer = Err Read

-- s is the fresh state, fed the message m
pub record Took (m : List ℕ) (s : State) : Type 0 where
  pub short : length m < 2 ^ 61
  pub is : s ≡ fed_state (fresh_of W160) m

-- how reading ended: at the end of the input, with the state that took the message m; by a read that failed; or by a piece that makes the
-- message too long
abbrev pub Ended : List ℕ → List ℕ → Option (List ℕ) → Result State Failure → Type 0
Ended m piece new (Ok s) = Took m s × (piece ≡ []) × IsAtEnd new
Ended m piece new (Err Read) = piece ≡ []
Ended m piece new (Err Length) = 2 ^ 61 ≤ length m + length piece

-- reading took some message, and ended so; a piece that was refused is one buffer at most
pub record Heard (old new : Option (List ℕ)) (r : Result State Failure) : Type 0 where
  pub message : List ℕ
  pub piece : List ℕ
  pub short : length message < 2 ^ 61
  pub room : length piece ≤ 4096
  pub read : Consumes old new (message ++ piece)
  pub ended : Ended message piece new r

-- the text r is the answer for the message that reading took; where no read failed, for all that the reader had
pub record Answered (old new : Option (List ℕ)) (r : List ℕ) : Type 0 where
  pub outcome : Result State Failure
  pub heard : Heard old new outcome
  pub is : r ≡ answer_of outcome heard.message
  pub whole : IfOk outcome (λ _. IfSome old (λ xs. r ≡ answer_of outcome xs))
