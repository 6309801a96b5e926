-- What is lent of a larger buffer: its first bytes.
-- Assumes nothing.
use Rattle.std.specs.Prelude.{ℕ, List, ◌++◌, take, drop}

-- f on the first n bytes of o, and the others as they are
abbrev pub at_front : ℕ → (List ℕ → List ℕ) → List ℕ → List ℕ
at_front n f o = f (take n o) ++ drop n o
