use Rattle.std.proofs.Common.{arith}
use Rattle.ripemd.proofs.Well.{well}
use Rattle.ripemd.proofs.well_formed.WellFormed.bytes_taken.Goals as goal

pub overflow_mul-result : goal.overflow_mul-result
overflow_mul-result c = omega (arith, (well c.args.self.state.now c.args.self.sound).count)

pub overflow_add-result : goal.overflow_add-result
overflow_add-result c =
    let w = well c.args.self.state.now c.args.self.sound in
    omega (arith, w.count, w.fill)
