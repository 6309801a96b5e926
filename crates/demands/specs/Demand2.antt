-- DEMAND 2. For every message under 2^61 bytes the digest is the published one: by one_shot, and by feeding a fresh state the whole
-- message and finishing it. `published` is defined on the whole message in the paper's terms, in the library's Digest.antt.
-- Assumes nothing.
use Rattle.std.specs.Prelude.{ℕ, ◌^◌, ◌<◌, ◌≡◌, refl, List, length}
use Rattle.std.proofs.Common.{arith}
use Rattle.compress.specs.declared.Width.{Width}
use Rattle.ripemd.specs.State.{fresh_of}
use Rattle.ripemd.specs.Feed.{feed_of}
use Rattle.ripemd.specs.Digest.{digest_length, published}
use Rattle.ripemd.specs.Finish.{finish_number, finish_bytes, one_shot_number, one_shot_bytes}
use Rattle.ripemd.proofs.Calls.{feed_takes, fresh_fine, shot_number, shot_bytes, fed_number, fed_bytes}

module _ (w : Width) (m o : List ℕ) (short : length m < 2 ^ 61) (l : length o ≡ digest_length w) where
  -- one call
  pub one_shot_digest : (one_shot_number w (length m) (length o) ≡ 0) × (one_shot_bytes w m o ≡ published w m)
  one_shot_digest = (shot_number w m short o l, shot_bytes w m short o l)

  -- fresh, feed, finish
  pub fed_digest : ((feed_of (fresh_of w) m).number ≡ 0)
      × (finish_number (feed_of (fresh_of w) m).state (length o) ≡ 0)
      × (finish_bytes (feed_of (fresh_of w) m).state o ≡ published w m)
  fed_digest =
      rw (feed_takes (fresh_of w) (fresh_fine w) m (omega (arith, short)))
      (refl, fed_number w m short o l, fed_bytes w m short o l)
