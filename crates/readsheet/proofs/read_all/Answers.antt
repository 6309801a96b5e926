use Rattle.std.proofs.Common.{rules, arith, ◌≡◌, ◌-◌, ◌<◌, length, length-take, take}
use Rattle.std.proofs.lemmas.Result.{err_from_is_err_and}
use Rattle.readsheet.proofs.Kept.{fits, longer, further, ended, failed, full}
use Rattle.readsheet.proofs.read_all.Goals as goal

pub returns-in_err-after_read : goal.returns-in_err-after_read
returns-in_err-after_read g c =
    let i = c.loop-buffer.invariant in
    let p = err_from_is_err_and c.from_residual.result c.from_residual.ensures.1 in
    rw p.1
    (failed _ _ _ _ i.0 c.len-room.ensures.0 (search rules) _ _ c.read-got.ensures.bound c.after_read.ensures.1 _ _ _ _ i.1 c.read-got.ensures.bytes)

pub returns-then-not-branch : goal.returns-then-not-branch
returns-then-not-branch g c =
    let i = c.loop-buffer.invariant in
    let l : length c.read-got.new.buf ≡ length (take (256 - c.len-room.result) c.loop-buffer.buffer) = search rules in
    let b : length c.loop-buffer.buffer ≡ 256 = search rules in
    let room : 0 < length c.read-got.new.buf = omega (arith, l, b, length-take (256 - c.len-room.result) c.loop-buffer.buffer, c.len.ensures.0, c.len-room.ensures.0, c.loop-buffer-test.true) in
    ended _ _ _ _ i.0 c.len-room.ensures.0 l _ _ c.read-got.ensures.bound c.after_read.ensures.1 (search rules) room _ _ _ i.1 c.read-got.ensures.bytes

pub loop-buffer-smaller : goal.loop-buffer-smaller
loop-buffer-smaller g c =
    let i = c.loop-buffer.invariant in
    let a = fits _ _ _ _ i.0 c.len-room.ensures.0 (search rules) _ _ c.read-got.ensures.bound c.after_read.ensures.1 in
    let b = longer _ _ _ _ i.0 c.len-room.ensures.0 (search rules) _ _ c.read-got.ensures.bound c.after_read.ensures.1 (search rules) in
    omega (arith, a, b)

pub loop-buffer-preserved : goal.loop-buffer-preserved
loop-buffer-preserved g c =
    let i = c.loop-buffer.invariant in (
      fits _ _ _ _ i.0 c.len-room.ensures.0 (search rules) _ _ c.read-got.ensures.bound c.after_read.ensures.1,
      further _ _ _ _ i.0 c.len-room.ensures.0 (search rules) _ _ c.read-got.ensures.bound c.after_read.ensures.1 _ _ _ i.1 c.read-got.ensures.bytes,
    )

pub returns : goal.returns
returns g c = full _ _ _ (omega (arith, c.loop-buffer-test.false, c.len.ensures.0, c.loop-buffer.invariant.0)) c.loop-buffer.invariant.1
