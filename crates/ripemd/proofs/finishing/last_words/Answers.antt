use Rattle.std.proofs.Common.{rules, arith, ◌≤◌, ◌≡◌, refl, ap, ◌∙◌, length}
use Rattle.compress.proofs.Chain.{blocks_front}
use Rattle.ripemd.specs.State.{fault_of}
use Rattle.ripemd.specs.Finish.{pad_count, padded_of}
use Rattle.ripemd.specs.declared.State.{State}
use Rattle.ripemd.specs.declared.Padded.{Padded}
use Rattle.ripemd.proofs.Well.{well}
use Rattle.ripemd.proofs.Ends.{pad_range, pad_last}
use Rattle.ripemd.proofs.finishing.last_words.Goals as goal

blocks_are : (s : State) → (padded_of s).blocks ≡ pad_count s.fill
unfolding padded_of
blocks_are s = refl

-- there are two blocks at most
few : (s : State) (p : Padded) → fault_of s ≡ 0 → p ≡ padded_of s → p.blocks ≤ 2
few s p f e =
    let b : p.blocks ≡ pad_count s.fill = ap (λ (p : Padded). p.blocks) e ∙ blocks_are s in
    omega (arith, pad_range s.fill (well s f).fill)

pub overflow_mul-p : goal.overflow_mul-p
overflow_mul-p c = omega (arith, few c.args.s.state.now c.pad-p.result c.args.s.sound c.pad-p.ensures)

pub shared_ref_as_front-compress_blocks : goal.shared_ref_as_front-compress_blocks
shared_ref_as_front-compress_blocks c = omega (arith, few c.args.s.state.now c.pad-p.result c.args.s.sound c.pad-p.ensures)

pub returns : goal.returns
returns c =
    let s = c.args.s.state.now in
    let l : length c.pad-p.result.bytes ≡ 128 = search rules in
    c.compress_blocks.ensures
    ∙ blocks_front s.width s.words c.pad-p.result.bytes c.pad-p.result.blocks (omega (arith, few s c.pad-p.result c.args.s.sound c.pad-p.ensures))
    ∙ rw (c.pad-p.ensures, blocks_are s) (pad_last s (well s c.args.s.sound) c.args.s.long)
