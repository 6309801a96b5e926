-- A call on a buffer that it takes whole, or on its first bytes, seen as one on its front. The call gives the answer g for a length, and makes
-- f of the bytes.
-- Assumes nothing.
use mathlib.Core.Path.{◌≡◌, ap}
use mathlib.Core.List.{List, append-nil, ◌++◌}
use Prim.Native.Nat.{ℕ, ◌≤◌}
use lib.ListN.{length, take, drop, drop_of_length-le}
use lib.Seq.{take_all}
use Rattle.front.specs.Front.{at_front}

module _ {A : Type 0} (g : ℕ → A) (f : List ℕ → List ℕ) (n : ℕ) (o : List ℕ) {answer : A} {last : List ℕ} where
  -- there is no room for n bytes
  pub whole : length o ≤ n → (answer ≡ g (length o)) × (last ≡ f o) → (answer ≡ g (length (take n o))) × (last ≡ at_front n f o)
  whole h e = rw (take_all n o h, drop_of_length-le o h, append-nil (f o)) e

  -- there is
  pub part : (m : ℕ) → n ≡ m → (answer ≡ g (length (take m o))) × (last ≡ f (take m o))
      → (answer ≡ g (length (take n o))) × (last ++ drop m o ≡ at_front n f o)
  part m same e = rw same (e.0, ap (λ (l : List ℕ). l ++ drop m o) e.1)
