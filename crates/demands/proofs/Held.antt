-- DEMAND 3. What reaching a state says, by one induction: a state that is reached has taken the whole message.
-- Assumes nothing.
use Rattle.std.specs.Prelude.{ℕ, ◌+◌, ◌*◌, ◌/◌, ◌%◌, ◌^◌, ◌<◌, ◌≡◌, List, [], ◌++◌, Bool, true, false, leb, length}
use Rattle.std.proofs.Math.Path.{refl, sym, ap}
use Rattle.std.proofs.Common.{◌∙◌, subst, arith, add-zero, leb-true, leb-false, length-append}
use Rattle.std.proofs.Math.Seq.{paste, paste-zero}
use Rattle.words.specs.Bytes.{Below}
use Rattle.compress.specs.declared.Width.{Width}
use Rattle.ripemd.specs.State.{taken_of, fault_of, between, moved}
use Rattle.ripemd.specs.Feed.{fed_state, feed_of}
use Rattle.ripemd.specs.Record.{record_of, export_number, export_bytes, import_of}
use Rattle.ripemd.specs.declared.State.{State}
use Rattle.ripemd.specs.Answers.{Fed}
use Rattle.ripemd.specs.Answers.{Imported}
use Rattle.ripemd.proofs.Pending.{fed_short}
use Rattle.ripemd.proofs.Cuts.{fed_twice}
use Rattle.ripemd.proofs.Outcomes.{accepted}
use Rattle.ripemd.proofs.Kept.{Sound, sound_fine, fed_width, fed_sound, fed_taken}
use Rattle.ripemd.proofs.Calls.{feed_takes, feed_long, export_full}
use Rattle.ripemd.proofs.Resumed.{import_export}
use Rattle.sheet.specs.Sheet.{write_number, write_bytes}
use Rattle.sheet.specs.Reading.{read_of}
use Rattle.sheet.specs.Answers.{Readout}
use Rattle.sheet.proofs.Again.{read_sheet}
use Rattle.demands.specs.Demand1.{feed_refused}
use Rattle.demands.specs.Sheets.{write_done}
use Rattle.demands.specs.Demand3.{Reach, start, fed, not_fed, read, resumed, on_paper}

-- ---- one induction: what reaching says
pub record Held (s₀ : State) (m : List ℕ) (s : State) : Type 0 where
  pub sound : Sound s
  pub room : taken_of s₀ + length m < 2 ^ 61
  pub taken : taken_of s ≡ taken_of s₀ + length m
  pub width : s.width ≡ s₀.width
  pub is : s ≡ fed_state s₀ m

-- a piece that is taken leaves the bytes below 2^61, and makes the state that feeding defines
took : (s : State) (p : List ℕ) → Sound s → (feed_of s p).number ≡ 0 → (taken_of s + length p < 2 ^ 61) × ((feed_of s p).state ≡ fed_state s p)
took s p k z = by_test (leb (2 ^ 61) (taken_of s + length p)) refl
  where
    by_test : (b : Bool) → leb (2 ^ 61) (taken_of s + length p) ≡ b → (taken_of s + length p < 2 ^ 61) × ((feed_of s p).state ≡ fed_state s p)
    by_test true e =
        let l = leb-true (2 ^ 61) (taken_of s + length p) e in
        absurd
        (let q : ◌≡◌ {A = ℕ} 1 0 = sym (ap (λ (f : Fed). f.number) (feed_long s (sound_fine k) p l)) ∙ z in
        omega arith)
    by_test false e =
        let l = leb-false (2 ^ 61) (taken_of s + length p) e in
        (l, ap (λ (f : Fed). f.state) (feed_takes s (sound_fine k) p l))

-- feeding nothing changes nothing
fed_none : (s : State) → Sound s → fed_state s [] ≡ s
fed_none s k =
    sym (fed_short s [] k.tail k.well.fill k.well.tail (omega (arith, k.well.fill)))
    ∙ ap (λ (f : ℕ). moved s s.words s.count.0 f (paste s.tail s.fill [] 0)) (add-zero s.fill)
    ∙ ap (moved s s.words s.count.0 s.fill) (sym (paste-zero s.tail s.fill []))

-- an export of a sound state that is done, imported again
pub again : (s : State) (o : List ℕ) → Sound s → export_number s (length o) ≡ 0 → import_of s.width (export_bytes s o) ≡ record { number = 0; state = s }
unfolding export_bytes
again s o k e =
    ap (import_of s.width) (accepted (export_number s (length o)) (record_of s) o e) ∙ import_export s k (export_full s (length o) e)

-- a sheet of a sound state that is written, read again
pub read_again : (s : State) (o : List ℕ) → Sound s → write_number s (length o) ≡ 0 → read_of (write_bytes s o) ≡ record { number = 0; place = 0; state = s }
read_again s o k e = ap read_of (write_done s o e) ∙ read_sheet s k

module _ (s₀ : State) (k₀ : Sound s₀) where
  held_fed : (m p : List ℕ) (s : State) → Held s₀ m s → Below 256 p → taken_of s + length p < 2 ^ 61 → Held s₀ (m ++ p) (fed_state s p)
  held_fed m p s k b h =
      let la = length-append m p in
      let t = fed_taken s p k.sound in
      record {
        sound = fed_sound s p k.sound h b;
        room = omega (arith, k.taken);
        taken = omega (arith, k.taken);
        width = fed_width s p ∙ k.width;
        is = ap (λ (t : State). fed_state t p) k.is ∙ fed_twice s₀ m p k₀.tail k₀.well.fill;
      }

  pub held : {m : List ℕ} {s : State} → Reach s₀ m s → Held s₀ m s
  held start =
      record {
        sound = k₀;
        room = omega (arith, k₀.well.fill, k₀.well.count);
        taken = omega arith;
        width = refl;
        is = sym (fed_none s₀ k₀);
      }
  held (fed m p s r b z) = after (held r)
    where
      after : Held s₀ m s → Held s₀ (m ++ p) (feed_of s p).state
      after k = let t = took s p k.sound z in subst (Held s₀ (m ++ p)) (sym t.1) (held_fed m p s k b t.0)
  held (not_fed m p s r n) = subst (Held s₀ m) (sym (feed_refused s p n)) (held r)
  held (read m s r) = held r
  held (resumed m o s r e) = after (held r)
    where
      after : Held s₀ m s → Held s₀ m (import_of s₀.width (export_bytes s o)).state
      after k =
          subst (Held s₀ m)
          (sym (ap (λ (i : Imported). i.state) (ap (λ (w : Width). import_of w (export_bytes s o)) (sym k.width) ∙ again s o k.sound e)))
          k
  held (on_paper m o s r e) = after (held r)
    where
      after : Held s₀ m s → Held s₀ m (read_of (write_bytes s o)).state
      after k = subst (Held s₀ m) (sym (ap (λ (t : Readout). t.state) (read_again s o k.sound e))) k

-- ---- from words h that c blocks made
module _ (w : Width) (h : List ℕ) (c : ℕ) (k₀ : Sound (between w h c)) {m : List ℕ} {s : State} (r : Reach (between w h c) m s) where
  -- the state is well formed, and its count and fill follow from the bytes taken
  pub chain_state : (fault_of s ≡ 0) × (s.count.0 ≡ c + length m / 64) × (s.fill ≡ length m % 64) × (64 * c + length m < 2 ^ 61)
  chain_state =
      let k = held (between w h c) k₀ r in
      let f = k.sound.well.fill in
      let b = k.taken in
      let z = k.room in
      (sound_fine k.sound, omega arith, omega arith, omega arith)
