-- `shape::digits::unhex` meets its contract.
-- Assumes nothing.
use mathlib.Core.Path.{◌≡◌, ◌∙◌}
use mathlib.Core.List.{◌++◌}
use Prim.Native.Nat.{◌+◌, ◌<◌}
use native.Mathlib.Omega.{arith}
use borrow.Author.Rules.{rules}
use lib.ListN.{length, length-append}
use Rattle.std.specs.Slice.Iter.{chunks_exact_rest, chunks_exact_size}
use Rattle.shape.proofs.Loops.{Unhexed, unhex_more, unhex_end}
use Rattle.shape.proofs.digits.unhex.Goals as goal

pub loop-j-preserved : goal.loop-j-preserved
loop-j-preserved c =
    let s = c.args.s.now in
    let o = c.args.out.now in
    let l = c.loop-j in
    let i = l.j-iterator.iter in
    let n = c.next.new.self.iter in
    let p = c.in-Some.pair.now in
    let to_come = chunks_exact_rest n in
    let j : c.in-Some.j ≡ l.j-iterator.count = search rules in
    let more : c.next.new.self.count ≡ l.j-iterator.count + 1 = search rules in
    let size : chunks_exact_size n ≡ chunks_exact_size i = search rules in
    let rest : chunks_exact_rest i ≡ p ++ chunks_exact_rest n = search rules in
    let two : length p ≡ 2 = search rules in
    let here : Unhexed s o l.out (p ++ to_come) l.j-iterator.count = rw rest at l.invariant.1 in
    let room : l.j-iterator.count < length l.out = omega (arith, here.far, here.long, length-append p to_come) in
    (size ∙ l.invariant.0, rw (j, more) (unhex_more s o l.out to_come p l.j-iterator.count _ here two room (cc)))

pub returns : goal.returns
returns c =
    let l = c.loop-j in
    let short : length (chunks_exact_rest l.j-iterator.iter) < 2 = search rules in
    unhex_end c.args.s.now c.args.out.now l.out (chunks_exact_rest l.j-iterator.iter) l.j-iterator.count l.invariant.1 short
