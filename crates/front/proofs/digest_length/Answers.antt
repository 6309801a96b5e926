-- `front::digest_length` meets its contract.
-- Assumes nothing.
use mathlib.Core.Path.{refl}
use native.Mathlib.Omega.{arith}
use Rattle.compress.proofs.Kept.{used_le}
use Rattle.front.proofs.digest_length.Goals as goal

pub overflow_mul-result : goal.overflow_mul-result
overflow_mul-result c = omega (arith, used_le c.args.w, c.used.ensures)

pub returns : goal.returns
returns c = rw c.used.ensures (refl, omega (arith, used_le c.args.w))
