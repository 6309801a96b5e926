-- A call's numbers, exactly: each is given just where its own condition holds and none before it, and 0 just where none holds.
-- Assumes nothing.
use Rattle.std.specs.Prelude.{ℕ, ◌≡◌, refl, Bool, true, false, not, cond, List, [], ◌∷◌, ◌++◌, ◌↔◌, ◌⊎◌, eqb}
use Rattle.std.proofs.Common.{sym, inl, inr, ne_eqb}
use Rattle.ripemd.specs.Refusals.{Row, ◌when◌, found, first}
use Rattle.ripemd.proofs.Well.{Numbered}

-- a table of numbers for x, where `before` says that no earlier condition holds: n exactly where C is the first, then the rest
abbrev pub number : ℕ → Type 0 → (Type 0 → ℕ → Type 0) → Type 0 → ℕ → Type 0
number n C rest before x = (x ≡ n ↔ before × C) × rest (before × (¬ C)) x

-- the end of the table: 0 exactly where no condition holds
abbrev pub nothing : Type 0 → ℕ → Type 0
nothing before x = x ≡ 0 ↔ before

-- n is one of these
abbrev pub OneOf : ℕ → List ℕ → Type 0
OneOf n [] = ⊥
OneOf n (m ∷ ms) = (n ≡ m) ⊎ OneOf n ms

-- a call's number x: as the table says, and one of these
pub record Given (ns : List ℕ) (table : Type 0 → ℕ → Type 0) (x : ℕ) : Type 0 where
  pub exactly : table (Unit {0}) x
  pub only : OneOf x ns

-- ---- that the first row whose condition holds has these numbers
-- x is none of the rows' numbers, nor 0
abbrev pub Other : List Row → ℕ → Type 0
Other [] x = ¬ (x ≡ 0)
Other (r ∷ rs) x = (¬ (x ≡ r.0)) × Other rs x

first_other : (rs : List Row) (n : ℕ) → Other rs n → ¬ (first rs ≡ n)
first_other [] n o = λ e. o (sym e)
first_other (r ∷ rs) n o = by_test r.1 (first_other rs n o.1)
  where
    by_test : (b : Bool) → ¬ (first rs ≡ n) → ¬ (cond b r.0 (first rs) ≡ n)
    by_test true h e = o.0 (sym e)
    by_test false h e = h e

-- the rows decide the table
pub record Decides (rs : List Row) (table : Type 0 → ℕ → Type 0) : Type 1 where
  pub on : (B : Type 0) → B → table B (first rs)
  pub off : (B : Type 0) → ¬ B → (x : ℕ) → Other rs x → table B x

-- no row: 0
pub no_row : Decides [] nothing
no_row = record { on = λ B b. (λ e. b, λ q. refl); off = λ B nb x o. (λ e. absurd (o e), λ b. absurd (nb b)) }

-- one row more, whose test c says whether C holds, and whose number is none of the others
pub one_row : (n : ℕ) (c : Bool) (C : Type 0) (rs : List Row) (rest : Type 0 → ℕ → Type 0) → (c ≡ true → C) → (c ≡ false → ¬ C) → Other rs n
    → Decides rs rest → Decides ((n when c) ∷ rs) (number n C rest)
one_row n c C rs rest so not_so other d = record { on = holds; off = fails }
  where
    by_test : (B : Type 0) → B → (t : Bool) → c ≡ t → number n C rest B (cond t n (first rs))
    by_test B b true e = ((λ q. (b, so e), λ q. refl), d.off (B × (¬ C)) (λ q. q.1 (so e)) n other)
    by_test B b false e = ((λ q. absurd (first_other rs n other q), λ q. absurd (not_so e q.1)), d.on (B × (¬ C)) (b, not_so e))

    holds : (B : Type 0) → B → number n C rest B (first ((n when c) ∷ rs))
    holds B b = by_test B b c refl

    fails : (B : Type 0) → ¬ B → (x : ℕ) → Other ((n when c) ∷ rs) x → number n C rest B x
    fails B nb x o = ((λ e. absurd (o.0 e), λ q. absurd (nb q.0)), d.off (B × (¬ C)) (λ q. nb q.0) x o.1)

-- ---- rows that stand in one row of a call's table
-- what some rows find, and then further rows, are all these rows
pub found_first : (fs rs : List Row) → Numbered fs → first (found (first fs) ∷ rs) ≡ first (fs ++ rs)
found_first [] rs k = refl
found_first (f ∷ fs) rs k = by_test f.1 (found_first fs rs k.1)
  where
    by_test : (b : Bool) → first (found (first fs) ∷ rs) ≡ first (fs ++ rs) → first (found (cond b f.0 (first fs)) ∷ rs) ≡ cond b f.0 (first (fs ++ rs))
    by_test true e = rw (ne_eqb f.0 0 k.0)
    by_test false e = e

-- a number that none of the further rows has was found
pub was_found : (f n : ℕ) (rs : List Row) → Other rs n → first (found f ∷ rs) ≡ n → f ≡ n
was_found f n rs o = by_test (eqb f 0)
  where
    by_test : (b : Bool) → cond (not b) f (first rs) ≡ n → f ≡ n
    by_test true e = absurd (first_other rs n o e)
    by_test false e = e

-- ---- that no other number is given
-- the rows' numbers, and 0 where none holds
abbrev pub numbers_of : List Row → List ℕ
numbers_of [] = 0 ∷ []
numbers_of (r ∷ rs) = r.0 ∷ numbers_of rs

listed : (rs : List Row) → OneOf (first rs) (numbers_of rs)
listed [] = inl refl
listed (r ∷ rs) = by_test r.1 (listed rs)
  where
    by_test : (b : Bool) → OneOf (first rs) (numbers_of rs) → OneOf (cond b r.0 (first rs)) (r.0 ∷ numbers_of rs)
    by_test true e = inl refl
    by_test false e = inr e

pub given : {rs : List Row} {table : Type 0 → ℕ → Type 0} → Decides rs table → Given (numbers_of rs) table (first rs)
given {rs} d = record { exactly = d.on (Unit {0}) tt; only = listed rs }
