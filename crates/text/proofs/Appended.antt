-- Laws of a text behind another one: where there is room for both, where there isn't, and of several texts that all fit.
-- Assumes nothing.
use Prim.Native.Nat.{ℕ, ◌+◌, ◌≤◌, ◌<◌}
use mathlib.Core.Path.{◌≡◌, refl, sym, ap, ◌∙◌}
use mathlib.Core.List.{List, [], ◌∷◌, ◌++◌, append_assoc, append-nil}
use native.Mathlib.Omega.{arith}
use lib.ListN.{length, take, drop, length-append}
use borrow.Rule.Slice.PartMut.{put_mid}
use Rattle.std.specs.List.{concat}
use Rattle.std.proofs.Common.{length-take-le, take_all}
use Rattle.std.proofs.lemmas.Slice.{take-put_mid}
use borrow.Author.Tests.{le-leb, lt-leb}
use Rattle.text.specs.Text.{appended}

module _ (n : ℕ) (t s : List ℕ) where
  pub appended-fits : length t + length s ≤ n → appended n t s ≡ t ++ s
  unfolding appended
  appended-fits h = rw (le-leb (length t + length s) n h)

  pub appended-full : n < length t + length s → appended n t s ≡ t
  unfolding appended
  appended-full h = rw (lt-leb (length t + length s) n h)

-- the same where it is written over bytes of which the first len are the text before it: x is what stands there then, with part from place k on
pub laid : (n : ℕ) (bytes t s part x : List ℕ) (len k m : ℕ) → x ≡ take (len + length s) (put_mid k m bytes part)
    → length bytes ≡ n → len + length s ≤ n → take len bytes ≡ t → k ≡ len → part ≡ s → x ≡ appended n t s
laid n bytes t s part x len k m e room fits before here whole =
    let l : length (take len bytes) ≡ len = length-take-le len bytes (omega arith) in
    let f : length t + length s ≤ n = omega (arith, ap length before) in
    e
    ∙ rw (here, whole) (take-put_mid len m bytes s (len + length s) refl (omega arith) ∙ ap (λ (y : List ℕ). y ++ s) before ∙ sym (appended-fits n t s f))

-- a text from its first byte on, to its end or behind it, is the whole text
pub from_the_start : (k m : ℕ) (s : List ℕ) → k ≡ 0 → length s ≤ m → take m (drop k s) ≡ s
from_the_start k m s e h = rw e (take_all m s h)

-- a text behind one that is known
pub behind : (n : ℕ) (s : List ℕ) {t u v : List ℕ} → u ≡ appended n t s → t ≡ v → u ≡ appended n v s
behind n s e f = e ∙ ap (λ (x : List ℕ). appended n x s) f

-- texts one behind the other
abbrev pub in_turn : ℕ → List ℕ → List (List ℕ) → List ℕ
in_turn n t [] = t
in_turn n t (s ∷ ss) = in_turn n (appended n t s) ss

pub in_turn-fits : (n : ℕ) (t : List ℕ) (ss : List (List ℕ)) → length t + length (concat ss) ≤ n → in_turn n t ss ≡ t ++ concat ss
in_turn-fits n t [] h = sym (append-nil t)
in_turn-fits n t (s ∷ ss) h =
    let l = length-append s (concat ss) in
    rw (appended-fits n t s (omega arith))
    (in_turn-fits n (t ++ s) ss (omega (arith, length-append t s)) ∙ append_assoc t s (concat ss))

pub in_turn-all : (n : ℕ) (ss : List (List ℕ)) → length (concat ss) ≤ n → in_turn n [] ss ≡ concat ss
in_turn-all n ss h = in_turn-fits n [] ss (omega arith)
