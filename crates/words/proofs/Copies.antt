-- A list copied over the front of another, one number after the other.
-- Assumes nothing.
use Rattle.std.proofs.Common.{◌≡◌, ℕ, ◌+◌, ◌<◌, List, ◌++◌, length, get_or, drop, set, sym, ap, ◌∙◌, zero-add, add-one, arith, take_all}
use lib.Seq.{paste, paste-suc}

-- one more
pub copy_more : (d s : List ℕ) (j : ℕ) → j < length d → j < length s → set (paste d 0 s j) j (get_or s j 0) ≡ paste d 0 s (j + 1)
copy_more d s j hd hs =
    ap (λ (k : ℕ). set (paste d 0 s j) k (get_or s j 0)) (sym (zero-add j))
    ∙ paste-suc d 0 s j 0 (omega arith) hs
    ∙ ap (paste d 0 s) (sym (add-one j))

-- all of them
pub copied : (d s : List ℕ) (n : ℕ) → length s ≡ n → paste d 0 s n ≡ s ++ drop n d
copied d s n e = rw (take_all n s (omega arith), zero-add n)
