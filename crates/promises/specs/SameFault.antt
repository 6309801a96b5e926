-- What the C face's calls say of an image that is no state, ripemd_fault says of it too: where feed, finish, export or write_sheet gives 60 to
-- 64, ripemd_fault gives the same number for the image that the call got.
-- Assumes nothing.
use Rattle.std.specs.Prelude.{ℕ, ◌≡◌, List}
use Rattle.std.proofs.Common.{ap, sym, ◌∙◌}
use contract.Lifetimes.{Lfts}
use denote.Triple.Clauses.{AtExit}
use borrow.Fn.Kinds.{Dens, res_t, ended_of}
use Rattle.ripemd.specs.State.{fault_of}
use Rattle.ripemd_c.specs.Image.{state_of}
use Rattle.ripemd_c.proofs.ripemd_fault.Kinds as fault-kinds
use Rattle.ripemd_c.proofs.ripemd_fault.Reads as fault-reads
use Rattle.ripemd_c.proofs.ripemd_feed.Kinds as feed-kinds
use Rattle.ripemd_c.proofs.ripemd_feed.Reads as feed-reads
use Rattle.ripemd_c.proofs.ripemd_finish.Kinds as finish-kinds
use Rattle.ripemd_c.proofs.ripemd_finish.Reads as finish-reads
use Rattle.ripemd_c.proofs.ripemd_export.Kinds as export-kinds
use Rattle.ripemd_c.proofs.ripemd_export.Reads as export-reads
use Rattle.ripemd_c.proofs.sheets.ripemd_write_sheet.Kinds as write-kinds
use Rattle.ripemd_c.proofs.sheets.ripemd_write_sheet.Reads as write-reads
use Rattle.demands.specs.Faults.{Fault}
use Rattle.demands.proofs.Demand1.{feed_numbers, finish_numbers, export_numbers}
use Rattle.demands.proofs.Sheets.{write_numbers}

-- ripemd_fault's contract for the image i gives the number y
abbrev pub FaultGives : List ℕ → ℕ → Type 0
FaultGives i y =
    (κs : Lfts 2) (a : Dens κs fault-kinds.ps) (x : (res_t fault-kinds.r κs).Denot) (e : AtExit (ended_of 2 fault-kinds.ps fault-kinds.r) κs)
    → a.0.now ≡ i → fault-reads.Post κs a x e → x ≡ y

by_image : (i : List ℕ) (y : ℕ) → fault_of (state_of i) ≡ y → FaultGives i y
by_image i y f κs a x e same p = p.0 ∙ ap (λ (j : List ℕ). fault_of (state_of j)) same ∙ f

-- from a law of the call on states, to its number x
handed : (i : List ℕ) (n x : ℕ) → x ≡ n → (Fault n → fault_of (state_of i) ≡ n) → Fault x → FaultGives i x
handed i n x e same f = by_image i x (rw e (same (rw (sym e) f)))

module _ (κs : Lfts 2) (a : Dens κs feed-kinds.ps) (x : (res_t feed-kinds.r κs).Denot) (e : AtExit (ended_of 2 feed-kinds.ps feed-kinds.r) κs) where
  pub feed_same : feed-reads.Post κs a x e → Fault x → FaultGives a.0.now x
  feed_same p = handed a.0.now _ x p.0 (feed_numbers (state_of a.0.now) a.1.0.now).same

module _ (κs : Lfts 2) (a : Dens κs finish-kinds.ps) (x : (res_t finish-kinds.r κs).Denot) (e : AtExit (ended_of 2 finish-kinds.ps finish-kinds.r) κs) where
  pub finish_same : finish-reads.Post κs a x e → Fault x → FaultGives a.0.now x
  finish_same p = handed a.0.now _ x p.0 (finish_numbers (state_of a.0.now) a.1.0.now).same

module _ (κs : Lfts 2) (a : Dens κs export-kinds.ps) (x : (res_t export-kinds.r κs).Denot) (e : AtExit (ended_of 2 export-kinds.ps export-kinds.r) κs) where
  pub export_same : export-reads.Post κs a x e → Fault x → FaultGives a.0.now x
  export_same p = handed a.0.now _ x p.0 (export_numbers (state_of a.0.now) a.1.0.now).same

module _ (κs : Lfts 2) (a : Dens κs write-kinds.ps) (x : (res_t write-kinds.r κs).Denot) (e : AtExit (ended_of 2 write-kinds.ps write-kinds.r) κs) where
  pub write_same : write-reads.Post κs a x e → Fault x → FaultGives a.0.now x
  write_same p = handed a.0.now _ x p.0 (write_numbers (state_of a.0.now) a.1.0.now).same
