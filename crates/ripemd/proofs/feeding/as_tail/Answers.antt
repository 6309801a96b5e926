use Rattle.ripemd.proofs.Zeros.{drop_replicate}
use Rattle.ripemd.proofs.feeding.as_tail.Goals as goal

pub returns : goal.returns
returns c = rw (c.copy_from_slice.ensures.after, drop_replicate)
