-- `words::rol` meets its contract: below 32 neither remainder changes its amount.
-- Assumes nothing.
use Rattle.std.proofs.Common.{◌≡◌, ◌-◌, ◌%◌, arith}
use Rattle.words.specs.Words.{rol_of}
use Rattle.words.proofs.Cyclic.{rol_law}
use Rattle.words.proofs.rol.Goals as goal

pub returns : goal.returns
unfolding rol_of
returns c =
    let s = c.args.s in
    let e : s % 32 ≡ s = omega arith in
    let g : (32 - s) % 32 ≡ 32 - s = omega arith in
    rw (c.rotate_left.ensures, e, g) (rol_law c.args.x s (omega arith) c.ranges.x.fits)
