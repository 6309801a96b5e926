-- The words of a combination, one after the other.
-- Assumes nothing.
use mathlib.Core.Bool.{true, false}
use mathlib.Core.Path.{◌≡◌, refl, ap, sym, ◌∙◌}
use mathlib.Core.List.{List, [], ◌∷◌, ◌++◌}
use mathlib.Core.Logic.{◌⊎◌, inl, inr}
use Prim.Native.Nat.{ℕ, zero, suc, ◌+◌, ◌-◌, ◌%◌, ◌<◌, ◌≤◌}
use native.Mathlib.Omega.{arith}
use native.Mathlib.Numerals.{add-one}
use lib.ListN.{length, get_or, set, replicate, length-append, length-replicate}
use lib.Seq.{set_at}
use Rattle.std.proofs.Common.{append_assoc, zero-add}
use Rattle.words.specs.Words.{add_of}
use Rattle.words.proofs.Numbers.{one_more}
use Rattle.tables.specs.Rule.{count_of}
use Rattle.tables.specs.declared.Size.{Size}
use Rattle.tables.specs.declared.Size.TheVariants.{Four, Five}
use Rattle.lines.specs.Places.{named, named_pair}
use Rattle.lines.specs.declared.Both.{Both}
use Rattle.rounds.specs.Engine.{names_of}
use Rattle.compress.specs.Block.{combine_of}
use Rattle.compress.specs.Engine.{width_from}

-- the first i words of n, each from a word, a register of the left line and one of the right
abbrev pub crossed : ℕ → List ℕ → List ℕ → List ℕ → ℕ → List ℕ
crossed n h l r zero = []
crossed n h l r (suc i) =
    crossed n h l r i ++ (add_of (add_of (get_or h ((i + 1) % n) 0) (get_or l ((i + 2) % n) 0)) (get_or r ((i + 3) % n) 0) ∷ [])

-- the first i sums of the words of h from a on with the registers v
abbrev pub sums : List ℕ → ℕ → List ℕ → ℕ → List ℕ
sums h a v zero = []
sums h a v (suc i) = sums h a v i ++ (add_of (get_or h (a + i) 0) (get_or v i 0) ∷ [])

length_crossed : (n : ℕ) (h l r : List ℕ) (i : ℕ) → length (crossed n h l r i) ≡ i
length_crossed n h l r zero = refl
length_crossed n h l r (suc i) = rw (length-append, length_crossed n h l r i) (omega arith)

length_sums : (h : List ℕ) (a : ℕ) (v : List ℕ) (i : ℕ) → length (sums h a v i) ≡ i
length_sums h a v zero = refl
length_sums h a v (suc i) = rw (length-append, length_sums h a v i) (omega arith)

-- word i, of a word that is x and of the registers at the places b and c
pub crossed_more : (n : ℕ) (h l r new : List ℕ) (i x b c : ℕ) → i < 10 → x ≡ get_or h ((i + 1) % n) 0 → b ≡ (i + 2) % n → c ≡ (i + 3) % n
    → new ≡ crossed n h l r i ++ replicate (10 - i) 0
    → set new i (add_of (add_of x (get_or l b 0)) (get_or r c 0)) ≡ crossed n h l r (i + 1) ++ replicate (10 - (i + 1)) 0
crossed_more n h l r new i x b c room ex eb ec e =
    let more : crossed n h l r (i + 1) ≡ crossed n h l r (suc i) = ap (crossed n h l r) (add-one i) in
    rw (ex, eb, ec)
    (one_more 10 i _ (crossed n h l r i) new (length_crossed n h l r i) room e ∙ ap (λ (ws : List ℕ). ws ++ replicate (10 - (i + 1)) 0) (sym more))

-- of words among which the first is chosen, it is that one
pub first_one : (x k : ℕ) (l : List ℕ) → k ≡ 0 → get_or (x ∷ l) k 0 ≡ x
first_one x k l e = rw e

-- n registers are four or five
pub four_or_five : (z : Size) → (count_of z ≡ 4) ⊎ (count_of z ≡ 5)
four_or_five Four = inl refl
four_or_five Five = inr refl

pub crossed_all : (z : Size) (h : List ℕ) (p : Both) → crossed (count_of z) h p.left p.right (count_of z) ++ replicate (10 - count_of z) 0 ≡ combine_of (width_from z false) h (names_of z p)
unfolding combine_of names_of named_pair named
crossed_all Four h p = refl
crossed_all Five h p = refl

-- the sums of both lines, n of each, the first i of which are there
abbrev pub both_sums : ℕ → List ℕ → List ℕ → List ℕ → ℕ → List ℕ
both_sums n h l r i = sums h 0 l i ++ (replicate (n - i) 0 ++ (sums h n r i ++ replicate (10 - n - i) 0))

pub sums_all : (z : Size) (h : List ℕ) (p : Both) → both_sums (count_of z) h p.left p.right (count_of z) ≡ combine_of (width_from z true) h (names_of z p)
unfolding combine_of names_of named_pair named
sums_all Four h p = refl
sums_all Five h p = refl

-- sum i of each line, the right line's with the word at place k
pub sums_more : (n : ℕ) (h l r new : List ℕ) (i k : ℕ) → i < n → n ≤ 5 → k ≡ n + i → new ≡ both_sums n h l r i
    → set (set new i (add_of (get_or h i 0) (get_or l i 0))) (n + i) (add_of (get_or h k 0) (get_or r i 0)) ≡ both_sums n h l r (i + 1)
sums_more n h l r new i k b five own e =
    let a : ℕ = add_of (get_or h i 0) (get_or l i 0) in
    let s : ℕ = add_of (get_or h (n + i) 0) (get_or r i 0) in
    let left : List ℕ = sums h 0 l i in
    let right : List ℕ = sums h n r i in
    let between : List ℕ = replicate (n - suc i) 0 in
    let behind : List ℕ = replicate (10 - n - suc i) 0 in
    let here : n - i ≡ suc (n - suc i) = omega arith in
    let there : 10 - n - i ≡ suc (10 - n - suc i) = omega arith in
    let grown : sums h 0 l (suc i) ≡ left ++ (a ∷ []) = rw zero-add in
    let first : set new i a ≡ (sums h 0 l (suc i) ++ (between ++ right)) ++ (0 ∷ behind) =
    rw (e, here, there, set_at left 0 (between ++ (right ++ (0 ∷ behind))) a i (length_sums h 0 l i), grown) (sym (simp append_assoc))
    in
    let long : length (sums h 0 l (suc i) ++ (between ++ right)) ≡ n + i =
    rw (length-append (sums h 0 l (suc i)) (between ++ right), length_sums h 0 l (suc i)) (simp (length-append, length-replicate, length_sums h n r i) (omega arith))
    in
    rw own
    (ap (λ (x : List ℕ). set x (n + i) s) first
    ∙ set_at (sums h 0 l (suc i) ++ (between ++ right)) 0 behind s (n + i) long
    ∙ (simp append_assoc)
    ∙ ap (both_sums n h l r) (sym (add-one i)))
