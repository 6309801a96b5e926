-- A sheet that is read is what it was written from, and the other way round.
-- Assumes nothing.
use Prim.Native.Nat.{ℕ, ◌^◌, ◌≤◌, ◌<◌}
use mathlib.Core.Path.{◌≡◌, refl, ap, sym, ◌∙◌}
use mathlib.Core.Bool.{Bool, true, false, cond}
use mathlib.Core.List.{List}
use mathlib.Core.Logic.{⊎_elim}
use native.Mathlib.Omega.{arith}
use borrow.Author.Tests.{leb-false, lt-leb, lt-ltb}
use lib.Dec.{leb, eqb, lit≤}
use lib.ListN.{length, get_or, take, drop}
use lib.Seq.{take_at}
use Rattle.compress.specs.Block.{initial_of}
use Rattle.compress.specs.declared.Width.{Width}
use Rattle.compress.specs.declared.Width.TheVariants.{W128, W160, W256, W320}
use Rattle.ripemd.specs.State.{wrong_start, fresh_of}
use Rattle.ripemd.specs.declared.State.{State}
use Rattle.ripemd.proofs.Starts.{starts, right_start}
use Rattle.ripemd.proofs.Outcomes.{accepted}
use Rattle.ripemd.proofs.Kept.{Sound}
use Rattle.shape.specs.Shape.{reach}
use Rattle.shape.proofs.Reach.{Right}
use Rattle.sheet.specs.Answers.{Readout}
use Rattle.sheet.specs.Sheet.{text_of, Shaped, words_shown, tail_shown, sheet_of}
use Rattle.sheet.specs.Reading.{head_of, shape_of, sheet_shape, width_in, state_with, state_at, state_in, held_number, held, read_of}
use Rattle.sheet.proofs.Lines.{head_long}
use Rattle.sheet.proofs.Apart.{headed}
use Rattle.sheet.proofs.Together.{text_shape, count_found, words_found, tail_is}
use Rattle.sheet.proofs.Answers.{far_width, read_right, read_wrong}
use Rattle.sheet.proofs.States.{shown_words, shown_tail, state_again, shown, made_sound}
use Rattle.sheet.proofs.Places.{right_of, shaped_sheet, shaped_or_not}

-- ---- a text has the shape of one width's sheets alone: the width that its bytes 7 and 8 name
named : List ℕ → Width
named l = cond (eqb (get_or l 7 0) 54) W160 (cond (eqb (get_or l 7 0) 53) W256 (cond (eqb (get_or l 8 0) 56) W128 W320))

named_back : (w : Width) → named (head_of w) ≡ w
unfolding named head_of
named_back W128 = refl
named_back W160 = refl
named_back W256 = refl
named_back W320 = refl

head_of_lem : (w : Width) (l : List ℕ) → Right (shape_of w) l → take 17 l ≡ head_of w
head_of_lem w l h = ap (take 17) (headed w l h).0 ∙ take_at (head_of w) (drop 17 l) 17 (head_long w)

one_width : (v w : Width) (l : List ℕ) → Right (shape_of v) l → Right (shape_of w) l → v ≡ w
one_width v w l p q = sym (named_back v) ∙ ap named (sym (head_of_lem v l p) ∙ head_of_lem w l q) ∙ named_back w

-- the state that a text of right shape shows
abbrev pub shows : {l : List ℕ} → Shaped l → State
shows k = state_with k.width k.count k.words k.tail

-- it is what reading finds in the text
pub state_in_lem : (l : List ℕ) (k : Shaped l) → state_in l ≡ shows k
state_in_lem l k =
    let r = text_shape k.width k.count k.words k.tail k.digits k.words_are k.words_long k.tail_are k.tail_long in
    let t = text_of k.width k.count k.words k.tail in
    ap state_in k.is
    ∙ ap (λ (v : Width). state_at v t) (one_width (width_in t) k.width t (far_width t (right_of k.width t r)) r)
    ∙ rw (
      count_found k.width k.count k.words k.tail k.digits k.words_are k.words_long k.tail_are k.tail_long,
      words_found k.width k.count k.words k.tail k.digits k.words_are k.words_long k.tail_are k.tail_long,
      tail_is k.width k.count k.words k.tail k.digits k.words_are k.words_long k.tail_are k.tail_long,
    )

pub read_shaped : (l : List ℕ) (k : Shaped l) → read_of l ≡ held (shows k)
read_shaped l k = read_right l (lt-ltb (length l) (reach sheet_shape l) (shaped_sheet l k)) ∙ ap held (state_in_lem l k)

-- ---- the sheet of a sound state
held_fine : (s : State) → s.count.0 < 2 ^ 55 → (s.count.0 ≡ 0 → s.words ≡ initial_of s.width) → held s ≡ record { number = 0; place = 0; state = s }
unfolding held held_number
held_fine s c b = rw (lt-leb (2 ^ 55) s.count.0 c, right_start s.width s.words s.count.0 b)

-- has the right shape
pub sheet_is_shaped : (s : State) → Sound s → Shaped (sheet_of s)
unfolding sheet_of
sheet_is_shaped s k =
    let m : 2 ^ 55 ≤ 10 ^ 17 = lit≤ tt in
    let w = shown_words s k in
    let t = shown_tail s k in
    record {
      width = s.width;
      count = s.count.0;
      words = words_shown s;
      tail = tail_shown s;
      digits = omega (arith, k.well.count);
      words_are = w.0;
      words_long = w.1;
      tail_are = t.0;
      tail_long = t.1;
      is = refl;
    }

-- and is read as that state
pub read_sheet : (s : State) → Sound s → read_of (sheet_of s) ≡ record { number = 0; place = 0; state = s }
unfolding sheet_is_shaped
read_sheet s k = read_shaped (sheet_of s) (sheet_is_shaped s k) ∙ ap held (state_again s k) ∙ held_fine s k.well.count k.well.start

-- ---- a text that is accepted
-- it has the right shape, and nothing is wrong with what it shows
read_zero : (l : List ℕ) → (read_of l).number ≡ 0 → (k : Shaped l) × (held_number (shows k) ≡ 0)
unfolding held
read_zero l e =
    ⊎_elim
    (λ h. (h.0, ap (λ (r : Readout). r.number) (sym (read_shaped l h.0)) ∙ e))
    (λ h. absurd (omega (arith, ap (λ (r : Readout). r.number) (read_wrong l h.1))))
    (shaped_or_not l)

held_zero : (s : State) → held_number s ≡ 0 → (s.count.0 < 2 ^ 55) × (s.count.0 ≡ 0 → s.words ≡ initial_of s.width)
unfolding held_number
held_zero s = by_test (leb (2 ^ 55) s.count.0) (wrong_start s.width s.words s.count.0) refl refl
  where
    by_test : (a b : Bool) → leb (2 ^ 55) s.count.0 ≡ a → wrong_start s.width s.words s.count.0 ≡ b
        → ◌≡◌ {A = ℕ} (cond a 5 (cond b 7 0)) 0 → (s.count.0 < 2 ^ 55) × (s.count.0 ≡ 0 → s.words ≡ initial_of s.width)
    by_test true b e f h = absurd (omega arith)
    by_test false true e f h = absurd (omega arith)
    by_test false false e f h = (leb-false (2 ^ 55) s.count.0 e, starts s.width s.words s.count.0 f)

-- it gives the state that it shows
pub read_accepted : (l : List ℕ) → (read_of l).number ≡ 0 → (k : Shaped l) → (read_of l).state ≡ shows k
unfolding held
read_accepted l e k =
    let z : held_number (shows k) ≡ 0 = ap (λ (r : Readout). r.number) (sym (read_shaped l k)) ∙ e in
    ap (λ (r : Readout). r.state) (read_shaped l k) ∙ accepted (held_number (shows k)) (shows k) (fresh_of W160) z

-- it is the sheet of the state that it gives, and that state is sound
pub accepted_sheet : (l : List ℕ) → (read_of l).number ≡ 0 → (sheet_of (read_of l).state ≡ l) × Sound (read_of l).state
unfolding state_with
accepted_sheet l e = by_shape (read_zero l e)
  where
    by_shape : (k : Shaped l) × (held_number (shows k) ≡ 0) → (sheet_of (read_of l).state ≡ l) × Sound (read_of l).state
    by_shape (k, z) =
        let c = held_zero (shows k) z in
        rw (read_accepted l e k) (
          shown k.width k.count k.words k.tail k.words_are k.words_long k.tail_long ∙ sym k.is,
          made_sound k.width k.count k.words k.tail k.words_are k.words_long k.tail_long c.0 c.1 k.tail_are,
        )
