-- DEMAND 3. Cut a message anywhere, empty pieces allowed; export and import wherever the bytes so far are a multiple of 64, write a sheet and
-- read it anywhere; calls that are refused in between, and finishing, count as not made. The digest is that of the whole message: theorems in proofs/Demand3.antt.
-- Assumes nothing.
use Rattle.std.specs.Prelude.{ℕ, ◌≡◌, List, [], ◌∷◌, ◌++◌, length}
use Rattle.std.proofs.Math.Path.{refl, ap}
use Rattle.std.proofs.Common.{◌∙◌}
use Rattle.words.specs.Bytes.{Below}
use Rattle.compress.specs.Block.{initial_of}
use Rattle.compress.specs.declared.Width.{Width}
use Rattle.ripemd.specs.State.{between, fresh_of}
use Rattle.ripemd.specs.Feed.{feed_of}
use Rattle.ripemd.specs.Record.{record_length, record_of, words_in, count_in, export_number, export_bytes, import_of}
use Rattle.ripemd.specs.declared.State.{State}
use Rattle.ripemd.specs.Answers.{Imported}
use Rattle.ripemd.proofs.Outcomes.{accepted}
use Rattle.ripemd.proofs.Kept.{sound_fine}
use Rattle.ripemd.proofs.Calls.{export_right}
use Rattle.ripemd.proofs.Resumed.{Importable, import_takes, import_sound, record_again, import_zero}
use Rattle.sheet.specs.Sheet.{write_number, write_bytes}
use Rattle.sheet.specs.Reading.{read_of}

-- s is reached from s₀ with the message m: by pieces, of bytes, that feed takes, and by calls that add nothing to the message
pub data Reach (s₀ : State) : List ℕ → State → Type 0 where
  -- nothing was called
  start : Reach s₀ [] s₀
  -- a piece was taken
  fed : (m p : List ℕ) (s : State) → Reach s₀ m s → Below 256 p → (feed_of s p).number ≡ 0 → Reach s₀ (m ++ p) (feed_of s p).state
  -- a piece was refused
  not_fed : (m p : List ℕ) (s : State) → Reach s₀ m s → ¬ ((feed_of s p).number ≡ 0) → Reach s₀ m (feed_of s p).state
  -- finish, export or write was called, whatever its number: no state comes back, so the caller goes on with its own
  read : (m : List ℕ) (s : State) → Reach s₀ m s → Reach s₀ m s
  -- an export that was done was imported at the same width
  resumed : (m o : List ℕ) (s : State) → Reach s₀ m s → export_number s (length o) ≡ 0
      → Reach s₀ m (import_of s₀.width (export_bytes s o)).state
  -- a sheet that was written was read
  on_paper : (m o : List ℕ) (s : State) → Reach s₀ m s → write_number s (length o) ≡ 0 → Reach s₀ m (read_of (write_bytes s o)).state

-- a state after pieces that are fed one after another
abbrev pub feed_all : State → List (List ℕ) → State
feed_all s [] = s
feed_all s (p ∷ ps) = feed_all (feed_of s p).state ps

-- the message that pieces make
abbrev pub joined : List (List ℕ) → List ℕ
joined [] = []
joined (p ∷ ps) = p ++ joined ps

-- ---- from any record r, of bytes, that import accepts
module _ (w : Width) (r : List ℕ) (b : Below 256 r) (ok : (import_of w r).number ≡ 0) where
  -- import takes it
  pub good : Importable w r
  good = import_zero w r ok

  -- and makes the state of its words and count
  pub is : (import_of w r).state ≡ between w (words_in w r) (count_in w r)
  is = ap (λ (i : Imported). i.state) (import_takes w r good)

  -- it exports to its own bytes
  pub record_same : (o : List ℕ) → length o ≡ record_length w
      → (export_number (import_of w r).state (length o) ≡ 0) × (export_bytes (import_of w r).state o ≡ r)
  unfolding export_bytes
  record_same o lo =
      let t = between w (words_in w r) (count_in w r) in
      let e = export_right t (sound_fine (import_sound w r good b)) (length o) lo refl in
      rw is (e, accepted (export_number t (length o)) (record_of t) o e ∙ record_again w r good b)

  -- where it counts no blocks, it is a fresh one
  pub record_fresh : count_in w r ≡ 0 → (import_of w r).state ≡ fresh_of w
  record_fresh z = is ∙ ap (λ (h : List ℕ). between w h (count_in w r)) (good.start z) ∙ ap (between w (initial_of w)) z
