-- Worked examples, computed: the definitions are the published operations.
-- Assumes nothing.
use Rattle.std.specs.Prelude.{◌≡◌, [], ◌∷◌, refl}
use Rattle.words.specs.Words.{rol_of}
use Rattle.words.specs.Bytes.{bytes_of, number_of}

-- T11
pub t11 : rol_of 5 0x80000001 ≡ 0x00000030
unfolding rol_of
t11 = refl

-- low byte first, both ways
pub low_first : (bytes_of 4 0x67452301 ≡ 0x01 ∷ 0x23 ∷ 0x45 ∷ 0x67 ∷ []) × (number_of (0x01 ∷ 0x23 ∷ 0x45 ∷ 0x67 ∷ []) ≡ 0x67452301)
low_first = (refl, refl)
