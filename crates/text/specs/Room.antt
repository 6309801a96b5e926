-- A text of n bytes at the front of the room o for m, behind which stand zeros, tells the room: what the type Text asks for to be copied. Laws, no definition.
-- Assumes nothing.
use Rattle.std.proofs.Common.{ℕ, ◌-◌, ◌≤◌, ◌≡◌, ap, sym, subst, ◌∙◌, List, ◌++◌, length, take, drop, replicate, length-take-le}
use Rattle.std.proofs.lemmas.List.{take-append-drop}

module _ (m n : ℕ) (o : List ℕ) (fits : n ≤ m) (long : length o ≡ m) (zeros : drop n o ≡ replicate (m - n) 0) where
  pub long_text : length (take n o) ≡ n
  long_text = length-take-le n o (subst (λ (i : ℕ). n ≤ i) (sym long) fits)

  pub told : take n o ++ replicate (m - length (take n o)) 0 ≡ o
  told =
      ap (λ (i : ℕ). take n o ++ replicate (m - i) 0) long_text
      ∙ ap (λ (r : List ℕ). take n o ++ r) (sym zeros)
      ∙ take-append-drop n o
