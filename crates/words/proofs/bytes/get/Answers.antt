-- `words::bytes::get` meets its contract.
-- Assumes nothing.
use Rattle.std.proofs.Common.{◌≡◌, suc, ◌-◌, length, get_or, arith}
use Rattle.words.proofs.Numbers.{number_step, pow_room, pow_more}
use Rattle.words.proofs.bytes.get.Goals as goal

pub overflow_mul-x : goal.overflow_mul-x
overflow_mul-x c =
    let r = pow_room c.loop-j.x (length c.args.s.now - c.loop-j.j) (omega arith) c.loop-j.invariant.0 in
    omega arith

pub overflow_add-x : goal.overflow_add-x
overflow_add-x c =
    let b = c.type_inv.s (c.loop-j.j - 1) in
    let r = pow_room c.loop-j.x (length c.args.s.now - c.loop-j.j) (omega arith) c.loop-j.invariant.0 in
    omega arith

pub loop-j-preserved : goal.loop-j-preserved
loop-j-preserved c =
    let s = c.args.s.now in
    let l = c.loop-j in
    let b = c.type_inv.s (l.j - 1) in
    let m : length s - (l.j - 1) ≡ suc (length s - l.j) = omega arith in
    let sj : suc (l.j - 1) ≡ l.j = omega arith in (
      rw m (pow_more l.x (get_or s (l.j - 1) 0) (length s - l.j) (omega arith) l.invariant.0),
      number_step s (l.j - 1) l.x (omega arith) (rw sj l.invariant.1),
    )
