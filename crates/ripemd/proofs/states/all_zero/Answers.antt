use Rattle.std.proofs.Common.{◌∙◌}
use Rattle.ripemd.proofs.Zeros.{zeros_gathered}
use Rattle.ripemd.proofs.states.all_zero.Goals as goal

pub loop-x-preserved : goal.loop-x-preserved
loop-x-preserved c = c.loop-x.invariant ∙ zeros_gathered c.args.a.now c.loop-x.x-index c.loop-x.any c.loop-x-test.true
