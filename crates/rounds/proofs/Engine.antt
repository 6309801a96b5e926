-- The engine at fixed places does what the paper does under the moving names, of four registers and of five.
-- Assumes nothing.
use mathlib.Core.Bool.{Bool, true, false}
use mathlib.Core.Path.{◌≡◌, refl, ap, sym, ◌∙◌}
use mathlib.Core.List.{List}
use Prim.Native.Nat.{ℕ, zero, suc, ◌+◌, ◌*◌, ◌≤◌, ◌<◌}
use native.Mathlib.Omega.{arith}
use lib.ListN.{length}
use Rattle.tables.specs.Rule.{count_of}
use Rattle.tables.specs.declared.Size.{Size}
use Rattle.tables.specs.declared.Size.TheVariants.{Four, Five}
use Rattle.lines.specs.Steps.{Pair, pair_steps}
use Rattle.lines.specs.Places.{named_pair, placed_pair, walk_of}
use Rattle.lines.specs.declared.Both.{Both}
use Rattle.lines.proofs.Pairs.{pair_named, pair_placed, walk_placed, exchange_placed, all_back}
use Rattle.rounds.specs.Rounds.{after_round, rounds_of}
use Rattle.rounds.specs.Engine.{places_of, names_of, exchanged_after}

after_placed : (z : Size) (e : Bool) (n : ℕ) → n < count_of z → (q : Pair)
    → exchanged_after e n (placed_pair z (16 * n + 16) q) ≡ placed_pair z (16 * n + 16) (after_round z e n q)
unfolding exchanged_after
after_placed z true n h q = exchange_placed z n h q
after_placed z false n h q = refl

pub at_least_four : (z : Size) → 4 ≤ count_of z
at_least_four Four = omega arith
at_least_four Five = omega arith

-- what follows round n, where the place exchanged is k
pub own_place : (x : Bool) (n k : ℕ) (p q r : Both) → r ≡ exchanged_after x k q → k ≡ n → q ≡ p → r ≡ exchanged_after x n p
own_place x n k p q r e own walked = e ∙ rw (own, walked) refl

-- n rounds at the places
abbrev pub rounds_at : Size → Bool → List ℕ → ℕ → Both → Both
rounds_at z e x zero p = p
rounds_at z e x (suc n) p = exchanged_after e n (walk_of z x (16 * n) 16 (rounds_at z e x n p))

rounds_placed : (z : Size) (e : Bool) (x : List ℕ) (n : ℕ) → n ≤ count_of z → (q : Pair)
    → rounds_at z e x n (placed_pair z 0 q) ≡ placed_pair z (16 * n) (rounds_of z e x n q)
unfolding rounds_of
rounds_placed z e x zero h q = refl
rounds_placed z e x (suc n) h q =
    let m : 16 * suc n ≡ 16 * n + 16 = omega arith in
    rw (
      rounds_placed z e x n (omega arith) q,
      walk_placed z x (16 * n) 16 (rounds_of z e x n q),
      m,
    ) (after_placed z e n (omega arith) (pair_steps z x (16 * n) 16 (rounds_of z e x n q)))

-- all of them
pub all_rounds_lem : (z : Size) (e : Bool) (x : List ℕ) (p : Both) → length p.left ≡ 5 → length p.right ≡ 5
    → rounds_at z e x (count_of z) p ≡ places_of z (rounds_of z e x (count_of z) (names_of z p))
unfolding places_of names_of
all_rounds_lem z e x p hl hr =
    let n = count_of z in
    ap (rounds_at z e x n) (sym (pair_placed z 0 p hl hr))
    ∙ rounds_placed z e x n (omega arith) (named_pair z 0 p)
    ∙ all_back z (rounds_of z e x n (named_pair z 0 p))

-- from the names to the places and back
pub names_places : (z : Size) (q : Pair) → names_of z (places_of z q) ≡ q
unfolding places_of names_of
names_places z q = pair_named z 0 q
