use Rattle.std.proofs.Common.{ℕ, arith, ◌≡◌, ◌+◌, ◌-◌, ◌*◌, ◌++◌, length, length-set, length-append, set, replicate}
use Rattle.std.proofs.lemmas.List.{length-replicate}
use Rattle.words.proofs.Numbers.{put_at}
use Rattle.ripemd.specs.Finish.{padded_of}
use Rattle.ripemd.proofs.Well.{well}
use Rattle.ripemd.proofs.Ends.{pad_range, pad_bytes}
use Rattle.ripemd.proofs.padding.pad.Goals as goal

pub overflow_mul-bits : goal.overflow_mul-bits
overflow_mul-bits c =
    let w = well c.args.s.state.now c.args.s.sound in
    omega (arith, w.count, w.fill, c.bytes_taken-bits.ensures)

pub bounds-bytes-s : goal.bounds-bytes-s
bounds-bytes-s c = omega (arith, (well c.args.s.state.now c.args.s.sound).fill)

pub returns : goal.returns
unfolding padded_of
returns c =
    let s = c.args.s.state.now in
    let w = well s c.args.s.sound in
    let b = c.pad_count-blocks.result in
    let r = pad_range s.fill w.fill in
    let e : 64 * b - 8 + 8 ≡ 64 * b = omega (arith, r, c.pad_count-blocks.ensures) in
    let hl : length (c.copy_from_slice.new.self ++ replicate 64 0) ≡ 128 = omega (arith, length-append c.copy_from_slice.new.self (replicate 64 0), length-replicate {A = ℕ} 64 0, c.copy_from_slice.ensures.len) in
    let p =
    put_at (set (c.copy_from_slice.new.self ++ replicate 64 0) s.fill 0x80) c.put.new.out (64 * b - 8) (64 * b) 8 (8 * c.bytes_taken-bits.result.0) e
    (simp length-set (omega (arith, r, c.pad_count-blocks.ensures, hl)))
    c.put.ensures
    in
    rw (p, c.copy_from_slice.ensures.after, c.bytes_taken-bits.ensures, c.pad_count-blocks.ensures, pad_bytes s w c.args.s.long)
