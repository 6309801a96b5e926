-- `text::put_hex` meets its contract: the digits of the first i bytes are written.
-- Assumes nothing.
use Rattle.std.proofs.Common.{◌≡◌, ◌*◌, ◌++◌, take, drop}
use Rattle.text.specs.Text.{hex_of}
use Rattle.text.proofs.put_hex.Given as goal

abbrev pub invariant-loop-i : goal.invariant-loop-i
invariant-loop-i l = l.room ≡ hex_of (take l.i l.bytes) ++ drop (2 * l.i) l.initial.room
