-- `ripemd_c::images::image` meets its contract.
-- Assumes nothing.
use borrow.Author.Rules.{rules}
use borrow.Rule.Slice.PartMut.{put_mid}
use mathlib.Core.Path.{◌≡◌, refl, sym}
use mathlib.Core.List.{List}
use Prim.Native.Nat.{ℕ}
use native.Mathlib.Omega.{arith}
use lib.ListN.{length, replicate}
use Rattle.words.proofs.Numbers.{put_at}
use Rattle.ripemd_c.specs.Image.{image_of}
use Rattle.ripemd_c.proofs.Laid.{image_laid}
use Rattle.ripemd_c.proofs.images.image.Goals as goal

pub returns : goal.returns
unfolding image_of
returns c =
    let a = c.args.s in
    let lh : length a.words ≡ 10 = search rules in
    let zeros : List ℕ = replicate 128 0 in
    let l₁ : List ℕ = put_mid 0 8 zeros c.put.new.out in
    let e₁ = put_at zeros c.put.new.out 0 8 8 c.number.result refl (omega arith) c.put.ensures in
    let l₂ : List ℕ = put_mid 8 8 l₁ c.put-2.new.out in
    let e₂ = put_at l₁ c.put-2.new.out 8 16 8 a.count.0 refl (rw e₁ (omega arith)) c.put-2.ensures in
    let l₃ : List ℕ = put_mid 16 8 l₂ c.put-3.new.out in
    let e₃ = put_at l₂ c.put-3.new.out 16 24 8 a.fill refl (rw (e₂, e₁) (omega arith)) c.put-3.ensures in
    rw (c.copy_from_slice.ensures.after, sym c.number.ensures)
    (image_laid c.number.result a.count.0 a.fill a.words a.tail l₁ l₂ l₃ _ lh e₁ e₂ e₃ c.put_words.ensures)
