-- Laws of what follows a read.
use Rattle.std.proofs.Common.{ℕ, ◌<◌, ◌≡◌, refl, sym, ap, ◌∙◌, cond, eqb, arith, Bool, true, false}
use Rattle.std.proofs.Common.{List, [], ◌∷◌, length, take, None, Some, Ok, Err}
use Rattle.std.proofs.lemmas.Bool.{eqb-true}
use Rattle.std.specs.declared.io.Error.{Error}
use Rattle.ripemd.specs.Answers.{fed}
use Rattle.ripemd.specs.Feed.{feed_of}
use Rattle.ripemd.specs.declared.State.{State}
use Rattle.ripemd.specs.declared.refusals.Refusal.{Refusal}
use Rattle.ripemd.specs.declared.refusals.Refused.{Refused}
use Rattle.ripemd.proofs.Answered.{refusal_numbered}
use Rattle.rmd160.specs.Reading.{fed_turn, piece_turn, turn_of}
use Rattle.rmd160.specs.declared.Failure.TheVariants.{Read, Length}

pub failed : (s : State) (e : Error) (b : List ℕ) → turn_of s (Err e) b ≡ Err Read
unfolding turn_of
failed s e b = refl

pub ended : (s : State) (n : ℕ) (b : List ℕ) → length (take n b) ≡ 0 → turn_of s (Ok n) b ≡ Ok None
unfolding turn_of
ended s n b h = none (take n b) h
  where
    none : (p : List ℕ) → length p ≡ 0 → piece_turn s p ≡ Ok None
    none [] h = refl
    none (x ∷ p) h = absurd (omega arith)

-- a piece that isn't empty is fed
pub fed_piece : (s : State) (p : List ℕ) → 0 < length p → piece_turn s p ≡ fed_turn (feed_of s p)
fed_piece s [] h = absurd (omega arith)
fed_piece s (x ∷ p) h = refl

pub went_on : (s : State) (n : ℕ) (b : List ℕ) (t : State) → 0 < length (take n b) → fed (Ok t) ≡ feed_of s (take n b)
    → turn_of s (Ok n) b ≡ Ok (Some t)
unfolding turn_of
went_on s n b t h e = fed_piece s (take n b) h ∙ ap fed_turn (sym e)

pub too_long : (s : State) (n : ℕ) (b : List ℕ) (r : Refused Refusal) → 0 < length (take n b)
    → fed (Err r) ≡ feed_of s (take n b) → turn_of s (Ok n) b ≡ Err Length
unfolding turn_of
too_long s n b r h e = fed_piece s (take n b) h ∙ ap fed_turn (sym e) ∙ refused r.refusal
  where
    refused : (q : Refusal) → fed_turn (fed (Err record { refusal = q; state = r.state })) ≡ Err Length
    refused q = by_test _ refl
      where
        by_test : (b : Bool) → eqb (fed (Err record { refusal = q; state = r.state })).number 0 ≡ b → cond b (Ok (Some r.state)) (Err Length) ≡ Err Length
        by_test true z = absurd (refusal_numbered q (eqb-true _ 0 z))
        by_test false z = refl

pub ruleset steps = (failed, ended, went_on, too_long)
