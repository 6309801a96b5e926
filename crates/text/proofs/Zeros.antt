-- Laws of a text of n bytes at the front of the room o for m, behind which stand zeros.
-- Assumes nothing.
use Rattle.std.proofs.Common.{ℕ, ◌+◌, ◌-◌, ◌≤◌, ◌≡◌, ap, sym, ◌∙◌, arith, List, length, length-append, drop, replicate, length-drop}
use Rattle.std.proofs.lemmas.List.{drop-drop, drop-replicate}
use Rattle.std.proofs.lemmas.Slice.{drop-put_mid}
use borrow.Rule.Slice.PartMut.{put_mid}
use Rattle.text.specs.Room.{long_text}

module _ (m n : ℕ) (o : List ℕ) (fits : n ≤ m) (long : length o ≡ m) (zeros : drop n o ≡ replicate (m - n) 0) where
  -- a text is put behind it, of k bytes
  module _ (u : List ℕ) (k : ℕ) (e : length u ≡ k) (room : n + k ≤ m) where
    pub long_put : length (put_mid n k o u) ≡ m
    long_put = simp (length-append, length-drop) (omega (arith, e, long_text m n o fits long zeros))

    pub zeros_put : drop (n + k) (put_mid n k o u) ≡ replicate (m - (n + k)) 0
    zeros_put =
        let less : m - n - k ≡ m - (n + k) = omega arith in
        drop-put_mid n k o u (n + k) (omega arith) (omega arith) e
        ∙ sym (drop-drop k n o)
        ∙ ap (drop k) zeros
        ∙ drop-replicate k (m - n) 0
        ∙ ap (λ (i : ℕ). replicate i 0) less
