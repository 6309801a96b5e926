-- A text that is appended to another one is put where that one ends, at the front of the room for both.
-- Assumes nothing.
use Rattle.std.proofs.Common.{ℕ, ◌+◌, ◌≤◌, ◌<◌, ◌≡◌, sym, ◌∙◌, arith, List, ◌++◌, length, length-append, take, drop, length-take-le}
use borrow.Author.Tests.{le-leb, lt-leb}
use lib.Seq.{take_at}
use Rattle.text.specs.Text.{put_at, appended}
use Rattle.text.proofs.Appended.{appended-fits, appended-full}

-- the room is o, and the text at its front has n bytes
module _ (o u : List ℕ) (n : ℕ) (h : n ≤ length o) where
  pub put_fits : n + length u ≤ length o → take (n + length u) (put_at o n u) ≡ appended (length o) (take n o) u
  unfolding put_at
  put_fits f =
      let l = length-take-le n o h in
      let d = drop (n + length u) o in
      rw (le-leb (n + length u) (length o) f)
      (
      take_at (take n o ++ u) d (n + length u) (omega (arith, length-append (take n o) u))
      ∙ sym (appended-fits (length o) (take n o) u (omega arith))
      )

  pub put_full : length o < n + length u → take n (put_at o n u) ≡ appended (length o) (take n o) u
  unfolding put_at
  put_full f =
      let l = length-take-le n o h in
      rw (lt-leb (n + length u) (length o) f) (sym (appended-full (length o) (take n o) u (omega arith)))
