-- A state has no fault exactly where it is well formed.
-- Assumes nothing.
use Prim.Native.Nat.{◌^◌}
use mathlib.Core.Path.{◌≡◌, refl}
use mathlib.Core.List.{List, [], ◌∷◌}
use mathlib.Core.Bool.{Bool, true, false, cond}
use native.Mathlib.Omega.{arith}
use borrow.Author.Tests.{leb-false, lt-leb, not-false}
use Rattle.ripemd.specs.Refusals.{Row, first}
use Rattle.ripemd.specs.State.{fault_rows, fault_of, WellFormed}
use Rattle.ripemd.specs.declared.State.{State}
use Rattle.ripemd.proofs.Starts.{starts, right_start}

-- no row has the number 0
abbrev pub Numbered : List Row → Type 0
Numbered [] = Unit {0}
Numbered (r ∷ rs) = (r.0 ≡ 0 → ⊥) × Numbered rs

-- no row's condition holds
abbrev Off : List Row → Type 0
Off [] = Unit {0}
Off (r ∷ rs) = (r.1 ≡ false) × Off rs

all_off : (rs : List Row) → Numbered rs → first rs ≡ 0 → Off rs
all_off [] k e = tt
all_off (r ∷ rs) k e = by_test r.1 refl (all_off rs k.1) e
  where
    by_test : (b : Bool) → r.1 ≡ b → (first rs ≡ 0 → Off rs) → cond b r.0 (first rs) ≡ 0 → (r.1 ≡ false) × Off rs
    by_test true h rest z = absurd (k.0 z)
    by_test false h rest z = (h, rest z)

pub faults_numbered : (s : State) → Numbered (fault_rows s)
faults_numbered s = (λ e. omega arith, (λ e. omega arith, (λ e. omega arith, (λ e. omega arith, (λ e. omega arith, tt)))))

module _ (s : State) where
  pub well : fault_of s ≡ 0 → WellFormed s
  unfolding fault_of
  well e =
      let h = all_off (fault_rows s) (faults_numbered s) e in
      record {
        fill = leb-false 64 s.fill h.0;
        count = leb-false (2 ^ 55) s.count.0 h.1.0;
        tail = not-false _ h.1.1.0;
        spare = not-false _ h.1.1.1.0;
        start = starts s.width s.words s.count.0 h.1.1.1.1.0;
      }

  pub no_fault : WellFormed s → fault_of s ≡ 0
  unfolding fault_of
  no_fault w =
      rw (
        lt-leb 64 s.fill w.fill,
        lt-leb (2 ^ 55) s.count.0 w.count,
        w.tail,
        w.spare,
        right_start s.width s.words s.count.0 w.start,
      )
