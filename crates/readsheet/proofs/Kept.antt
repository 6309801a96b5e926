-- Laws of the bytes that are kept, k, of which there are m.
use Rattle.std.proofs.Common.{ℕ, ◌-◌, ◌≤◌, ◌<◌, ◌≡◌, refl, sym, ap, ◌∙◌, subst, arith, List, [], ◌∷◌, ◌++◌, Option, Result, Ok, Err}
use Rattle.std.proofs.Common.{Bool, true, false, not, eqb}
use Rattle.std.proofs.Common.{append-nil, length, length-append, length-take, take, drop}
use Rattle.std.proofs.lemmas.Bool.{eqb-true, eqb-false}
use Rattle.std.proofs.lemmas.List.{take-append-le}
use Rattle.std.proofs.KnownBytes.{Consumes-trans, Consumes-kept}
use Rattle.std.specs.Io.KnownBytes.{Consumes, IsAtEnd, ReadConsumes}
use Rattle.std.specs.Io.{ReadsAtMost}
use Rattle.std.specs.declared.io.Error.{Error}
use borrow.Author.Tests.{ne_eqb}
use lib.Seq.{take_all}
use Rattle.text.specs.Text.{appended}
use Rattle.text.proofs.Appended.{appended-fits}
use Rattle.readsheet.specs.Reading.{turn_of, keep_of, Heard}

-- what there is room for fits
pub kept_fits : (k p : List ℕ) → length k ≤ 256 → appended 256 k (take (256 - length k) p) ≡ k ++ take (256 - length k) p
kept_fits k p h = appended-fits 256 k (take (256 - length k) p) (omega (arith, length-take (256 - length k) p))

-- what follows a read that gave nothing
pub gave_none : (n : ℕ) (k b : List ℕ) → length (take n b) ≡ 0 → (turn_of (Ok n) b ≡ Ok false) × (keep_of k (Ok n) b ≡ k)
unfolding turn_of keep_of
gave_none n k b h =
    let none : take n b ≡ [] = length_zero (take n b) h in
    (ap (λ (i : ℕ). Ok (not (eqb i 0))) h, ap (λ (p : List ℕ). k ++ take (256 - length k) p) none ∙ ap (λ (p : List ℕ). k ++ p) (take_all (256 - length k) [] (omega arith)) ∙ append-nil k)
  where
    length_zero : (l : List ℕ) → length l ≡ 0 → l ≡ []
    length_zero [] z = refl
    length_zero (x ∷ l) z = absurd (omega arith)

-- and one that gave something
pub gave_some : (n : ℕ) (b : List ℕ) → 0 < length (take n b) → turn_of (Ok n) b ≡ Ok true
unfolding turn_of
gave_some n b h = ap (λ (z : Bool). Ok (not z)) (ne_eqb (length (take n b)) 0 (λ e. omega (arith, e)))

-- what tells the cases of what follows a read
abbrev told : Result Bool Error → ℕ
told (Err x) = 0
told (Ok true) = 1
told (Ok false) = 2

some : (n : ℕ) → ◌≡◌ {A = Result Bool Error} (Ok true) (Ok (not (eqb n 0))) → 0 < n
some n z = by_test (eqb n 0) refl
  where
    by_test : (b : Bool) → eqb n 0 ≡ b → 0 < n
    by_test true h = absurd (omega (arith, ap told (z ∙ ap (λ (b : Bool). Ok (not b)) h)))
    by_test false h = omega (arith, eqb-false n 0 h)

none : (n : ℕ) → ◌≡◌ {A = Result Bool Error} (Ok false) (Ok (not (eqb n 0))) → n ≡ 0
none n z = by_test (eqb n 0) refl
  where
    by_test : (b : Bool) → eqb n 0 ≡ b → n ≡ 0
    by_test true h = eqb-true n 0 h
    by_test false h = absurd (omega (arith, ap told (z ∙ ap (λ (b : Bool). Ok (not b)) h)))

-- a read answered got with the part of the buffer for which there is room
module _
    (k part buffer : List ℕ) (m : ℕ)
    (few : length k ≤ 256) (count : m ≡ length k) (long : length part ≡ length (take (256 - m) buffer))
  where
    -- it put n bytes there
    module _ (n : ℕ) (within : n ≤ length part) where
      piece : take n (part ++ drop (256 - m) buffer) ≡ take n part
      piece = take-append-le n part (drop (256 - m) buffer) within

      there : length (take n part) ≡ n
      there = omega (arith, length-take n part)

      kept : keep_of k (Ok n) (part ++ drop (256 - m) buffer) ≡ k ++ take n part
      unfolding keep_of
      kept =
          ap (λ (p : List ℕ). k ++ take (256 - length k) p) piece
          ∙ ap (λ (p : List ℕ). k ++ p) (take_all (256 - length k) (take n part) (omega (arith, there, length-take (256 - m) buffer)))

      more : turn_of (Ok n) (part ++ drop (256 - m) buffer) ≡ Ok (not (eqb n 0))
      unfolding turn_of
      more = ap (λ (p : List ℕ). Ok (not (eqb (length p) 0))) piece ∙ ap (λ (i : ℕ). Ok (not (eqb i 0))) there

    -- after it l is kept
    module _
        (l : List ℕ) (got : Result ℕ Error) (most : ReadsAtMost got part) (e : l ≡ keep_of k got (part ++ drop (256 - m) buffer))
      where
        pub fits : length l ≤ 256
        unfolding keep_of
        fits = by_got got most e
          where
            by_got : (r : Result ℕ Error) → ReadsAtMost r part → l ≡ keep_of k r (part ++ drop (256 - m) buffer) → length l ≤ 256
            by_got (Ok n) h g = omega (arith, ap length (g ∙ kept n h.0), length-append k (take n part), there n h.0, length-take (256 - m) buffer)
            by_got (Err x) h g = omega (arith, ap length g)

        pub longer : Ok true ≡ turn_of got (part ++ drop (256 - m) buffer) → length k < length l
        unfolding turn_of
        longer z = by_got got most e z
          where
            by_got : (r : Result ℕ Error) → ReadsAtMost r part → l ≡ keep_of k r (part ++ drop (256 - m) buffer)
                → Ok true ≡ turn_of r (part ++ drop (256 - m) buffer) → length k < length l
            by_got (Ok n) h g z = omega (arith, some n (z ∙ more n h.0), ap length (g ∙ kept n h.0), length-append k (take n part), there n h.0)
            by_got (Err x) h g z = absurd (omega (arith, ap told z))

        pub further : (old mid new : Option (List ℕ)) → Consumes old mid k → ReadConsumes mid new got part → Consumes old new l
        unfolding keep_of
        further old mid new p q = by_got got most e q
          where
            by_got : (r : Result ℕ Error) → ReadsAtMost r part → l ≡ keep_of k r (part ++ drop (256 - m) buffer)
                → ReadConsumes mid new r part → Consumes old new l
            by_got (Ok n) h g q = subst (Consumes old new) (sym (g ∙ kept n h.0)) (Consumes-trans old mid new k (take n part) p q.0)
            by_got (Err x) h g q = subst (Consumes old new) (sym g) (Consumes-kept old mid new k p q)

        pub ended : Ok false ≡ turn_of got (part ++ drop (256 - m) buffer) → 0 < length part → (old mid new : Option (List ℕ))
            → Consumes old mid k → ReadConsumes mid new got part → Heard old new (Ok l)
        unfolding turn_of
        ended z room old mid new p q =
            record { message = l; read = further old mid new p q; kept = (sym (take_all 256 l fits), λ _. by_got got most q z) }
          where
            by_got : (r : Result ℕ Error) → ReadsAtMost r part → ReadConsumes mid new r part
                → Ok false ≡ turn_of r (part ++ drop (256 - m) buffer) → IsAtEnd new
            by_got (Ok n) h q z = q.1 (none n (z ∙ more n h.0)) room
            by_got (Err x) h q z = absurd (omega (arith, ap told z))

        pub failed : (x : Error) (old mid new : Option (List ℕ)) → Consumes old mid k → ReadConsumes mid new got part → Heard old new (Err x)
        failed x old mid new p q = record { message = l; read = further old mid new p q; kept = tt }

pub full : (old new : Option (List ℕ)) (k : List ℕ) → length k ≡ 256 → Consumes old new k → Heard old new (Ok k)
full old new k h p = record { message = k; read = p; kept = (sym (take_all 256 k (omega arith)), λ q. absurd (omega arith)) }
