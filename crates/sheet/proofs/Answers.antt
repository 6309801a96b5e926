-- What reading gives a text that is a sheet and one that is none; and the width along which a text goes farthest.
-- Assumes nothing.
use Prim.Native.Nat.{ℕ, ◌*◌, ◌^◌, ◌≤◌, ◌<◌, max}
use mathlib.Core.Path.{◌≡◌, refl, ap, sym, ◌∙◌}
use mathlib.Core.Bool.{Bool, true, false, cond}
use mathlib.Core.List.{List, [], ◌∷◌}
use Rattle.std.specs.List.{fold}
use native.Mathlib.Omega.{arith}
use borrow.Author.Tests.{ne_eqb, ltb-true, ltb-false, lt-leb, lt-ltb, le-ltb}
use lib.Dec.{eqb, leb, ltb}
use lib.ListN.{length}
use Rattle.compress.specs.Block.{used_of}
use Rattle.compress.specs.declared.Width.{Width}
use Rattle.compress.specs.declared.Width.TheVariants.{W160}
use Rattle.ripemd.specs.State.{wrong_start, fault_of, answer_of}
use Rattle.ripemd.specs.Answers.{Answer, of_fault, plain}
use Rattle.ripemd.specs.declared.refusals.Fault.{Fault}
use Rattle.ripemd.specs.declared.refusals.Fault.TheVariants.{Fill, Count, Tail, Spare, Start}
use Rattle.ripemd.specs.declared.State.{State}
use Rattle.shape.specs.Shape.{reach}
use Rattle.shape.proofs.Reach.{Right}
use Rattle.sheet.specs.declared.Far.{Far}
use Rattle.sheet.specs.Answers.{Readout}
use Rattle.sheet.proofs.Apart.{words_read, tail_read}
use Rattle.sheet.proofs.States.{made_plain}
use Rattle.sheet.specs.Reading.{shape_of, sheet_shape, place_of, is_sheet, farther_of, farthest_of, widths, width_in}
use Rattle.sheet.specs.Reading.{count_in, word_bytes_in, tail_in, state_at, state_in, Plain, held_number, read_number, read_of, held, refused_of}

pub held_not_8 : (s : State) → held_number s ≡ 8 → ⊥
unfolding held_number
held_not_8 s = by_test (leb (2 ^ 55) s.count.0) (wrong_start s.width s.words s.count.0)
  where
    by_test : (a b : Bool) → ◌≡◌ {A = ℕ} (cond a 5 (cond b 7 0)) 8 → ⊥
    by_test true b e = omega arith
    by_test false true e = omega arith
    by_test false false e = omega arith

-- ---- the number of a state that a sheet holds, by what is wrong with it
module _ (s : State) (k : Plain s) where
  fault_is : fault_of s ≡ cond (leb (2 ^ 55) s.count.0) 61 (cond (wrong_start s.width s.words s.count.0) 64 0)
  unfolding fault_of
  fault_is = rw (lt-leb 64 s.fill k.0, k.1, k.2)

  pub held_by_fault : held_number s ≡ cond (eqb (fault_of s) 61) 5 (cond (eqb (fault_of s) 64) 7 0)
  unfolding held_number
  held_by_fault = by_test (leb (2 ^ 55) s.count.0) (wrong_start s.width s.words s.count.0) ∙ rw fault_is
    where
      by_test : (a b : Bool)
          → ◌≡◌ {A = ℕ} (cond a 5 (cond b 7 0)) (cond (eqb (cond a 61 (cond b 64 0)) 61) 5 (cond (eqb (cond a 61 (cond b 64 0)) 64) 7 0))
      by_test true b = refl
      by_test false true = refl
      by_test false false = refl

-- the same by what fault finds
module _ (s : State) (k : Plain s) where
  pub sound_held : plain 0 ≡ answer_of s (fault_of s) → record { number = 0; place = 0; state = s } ≡ held s
  unfolding held
  sound_held e = rw (held_by_fault s k, sym (ap (λ (a : Answer). a.number) e)) refl

  pub count_held : plain 61 ≡ answer_of s (fault_of s) → refused_of 5 0 ≡ held s
  unfolding held
  count_held e = rw (held_by_fault s k, sym (ap (λ (a : Answer). a.number) e)) refl

  pub start_held : (f : Fault) → (f ≡ Count → ⊥) → of_fault f ≡ answer_of s (fault_of s) → refused_of 7 0 ≡ held s
  unfolding held
  start_held f n e = rw (held_by_fault s k, still) refl
    where
      still : fault_of s ≡ 64
      still = by_test f n (ap (λ (a : Answer). a.number) e) (leb (2 ^ 55) s.count.0) (wrong_start s.width s.words s.count.0) (fault_is s k)
        where
          by_test : (f : Fault) → (f ≡ Count → ⊥) → (of_fault f).number ≡ fault_of s → (a b : Bool) → fault_of s ≡ cond a 61 (cond b 64 0) → fault_of s ≡ 64
          by_test Count n e a b q = absurd (n refl)
          by_test f n e false true q = q
          by_test Fill n e true b q = absurd (omega (arith, e, q))
          by_test Fill n e false false q = absurd (omega (arith, e, q))
          by_test (Tail i) n e true b q = absurd (omega (arith, e, q))
          by_test (Tail i) n e false false q = absurd (omega (arith, e, q))
          by_test (Spare i) n e true b q = absurd (omega (arith, e, q))
          by_test (Spare i) n e false false q = absurd (omega (arith, e, q))
          by_test Start n e true b q = absurd (omega (arith, e, q))
          by_test Start n e false false q = absurd (omega (arith, e, q))

pub ruleset held_steps = (sound_held, count_held, start_held)

module _ (l : List ℕ) where
  pub read_right : is_sheet l ≡ true → read_of l ≡ held (state_in l)
  unfolding read_of read_number held held_number
  read_right h = rw (h, ne_eqb _ 8 (held_not_8 (state_in l)))

  pub read_wrong : is_sheet l ≡ false → read_of l ≡ refused_of 8 (place_of l)
  unfolding read_of read_number
  read_wrong h = rw h

-- ---- the width along which a text goes farthest
far_place : (l : List ℕ) (f : Far) (w : Width) → (farther_of l f w).place ≡ max f.place (reach (shape_of w) l)
unfolding farther_of
far_place l f w = by_test (ltb f.place (reach (shape_of w) l)) refl
  where
    by_test : (b : Bool) → ltb f.place (reach (shape_of w) l) ≡ b
        → (cond b (record { place = reach (shape_of w) l; width = w }) f).place ≡ max f.place (reach (shape_of w) l)
    by_test true e = let h = ltb-true f.place (reach (shape_of w) l) e in omega arith
    by_test false e = let h = ltb-false f.place (reach (shape_of w) l) e in omega arith

-- the place is no farther than the text goes along the width's sheets
abbrev Gone : List ℕ → Far → Type 0
Gone l f = f.place ≤ reach (shape_of f.width) l

gone_on : (l : List ℕ) (f : Far) (w : Width) → Gone l f → Gone l (farther_of l f w)
unfolding farther_of
gone_on l f w g = by_test (ltb f.place (reach (shape_of w) l))
  where
    by_test : (b : Bool) → Gone l (cond b (record { place = reach (shape_of w) l; width = w }) f)
    by_test true = omega arith
    by_test false = g

module _ (l : List ℕ) where
  far_places : (f : Far) (ws : List Width) → (fold (farther_of l) f ws).place ≡ fold (λ n w. max n (reach (shape_of w) l)) f.place ws
  far_places f [] = refl
  far_places f (w ∷ ws) =
      far_places (farther_of l f w) ws
      ∙ ap (λ (n : ℕ). fold (λ n w. max n (reach (shape_of w) l)) n ws) (far_place l f w)

  all_gone : (f : Far) (ws : List Width) → Gone l f → Gone l (fold (farther_of l) f ws)
  all_gone f [] g = g
  all_gone f (w ∷ ws) g = all_gone (farther_of l f w) ws (gone_on l f w g)

  abbrev none : Far
  none = record { place = 0; width = W160 }

  -- the farthest of the widths is the farthest of their sheets
  pub far_all : (farthest_of l).place ≡ reach sheet_shape l
  unfolding farthest_of reach
  far_all = far_places none widths ∙ omega arith

  pub far_width : Right sheet_shape l → Right (shape_of (width_in l)) l
  unfolding farthest_of
  far_width h = omega (arith, far_all, all_gone none widths (omega arith))

-- ---- what reading finds by the farthest width
module _ (l : List ℕ) (f : Far) (e : f ≡ farthest_of l) where
  far_is : f.place ≡ reach sheet_shape l
  far_is = ap (λ (g : Far). g.place) e ∙ far_all l

  pub refused_is : (r : Readout) → f.place ≤ length l → r ≡ refused_of 8 f.place → r ≡ read_of l
  refused_is r h q = q ∙ ap (refused_of 8) far_is ∙ sym (read_wrong l (le-ltb (length l) (reach sheet_shape l) (omega (arith, far_is))))

  module _ (h : length l < f.place) where
    pub width_is : Right (shape_of f.width) l
    width_is = rw e (far_width l (omega (arith, far_is)))

    module _ (s : State) (q : s ≡ state_at f.width l) where
      pub plain_is : Plain s
      plain_is =
          let w = f.width in
          let n = 4 * used_of w in
          let r = words_read w l width_is in
          rw q (made_plain w (count_in l) (word_bytes_in n l) (tail_in n l) r.0 r.1 (tail_read w l width_is).1)

      pub held_is : (r : Readout) → r ≡ held s → r ≡ read_of l
      held_is r k =
          k ∙ ap held (q ∙ ap (λ (g : Far). state_at g.width l) e)
          ∙ sym (read_right l (lt-ltb (length l) (reach sheet_shape l) (omega (arith, far_is))))

pub ruleset read_steps = (refused_is, width_is, held_is)
