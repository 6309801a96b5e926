-- The padded empty message at every width, computed: the definition is the published function.
-- Assumes nothing.
use Rattle.std.specs.Prelude.{◌≡◌, refl, List, [], ◌∷◌, ℕ, replicate}
use Rattle.words.specs.Words.{rol_of, f_of}
use Rattle.words.specs.Bytes.{words_of}
use Rattle.tables.specs.Rule.{order_of, shift_of, k_of, function_of}
use Rattle.lines.specs.Steps.{step_of, step_at, steps_of, pair_steps}
use Rattle.rounds.specs.Rounds.{rounds_of}
use Rattle.compress.specs.Block.{initial_of, combine_of, compress_of}
use Rattle.compress.specs.declared.Width.TheVariants.{W128, W160, W256, W320}

-- byte 80 (hex), then zeros: the bit length is 0
abbrev pub empty : List ℕ
empty = words_of 16 (0x80 ∷ replicate 63 0)

-- RIPEMD-128: cdf26213a150dc3ecb610f18f6b38b46
pub empty_128 : compress_of W128 (initial_of W128) empty
    ≡ 0x1362f2cd ∷ 0x3edc50a1 ∷ 0x180f61cb ∷ 0x468bb3f6 ∷ 0 ∷ 0 ∷ 0 ∷ 0 ∷ 0 ∷ 0 ∷ []
unfolding compress_of rounds_of combine_of pair_steps steps_of step_at step_of rol_of f_of order_of shift_of k_of function_of
empty_128 = refl

-- RIPEMD-160: 9c1185a5c5e9fc54612808977ee8f548b2258d31
pub empty_160 : compress_of W160 (initial_of W160) empty
    ≡ 0xa585119c ∷ 0x54fce9c5 ∷ 0x97082861 ∷ 0x48f5e87e ∷ 0x318d25b2 ∷ 0 ∷ 0 ∷ 0 ∷ 0 ∷ 0 ∷ []
unfolding compress_of rounds_of combine_of pair_steps steps_of step_at step_of rol_of f_of order_of shift_of k_of function_of
empty_160 = refl

-- RIPEMD-256: 02ba4c4e5f8ecd1877fc52d64d30e37a2d9774fb1e5d026380ae0168e3c5522d
pub empty_256 : compress_of W256 (initial_of W256) empty
    ≡ 0x4e4cba02 ∷ 0x18cd8e5f ∷ 0xd652fc77 ∷ 0x7ae3304d ∷
    0xfb74972d ∷ 0x63025d1e ∷ 0x6801ae80 ∷ 0x2d52c5e3 ∷ 0 ∷ 0 ∷ []
unfolding compress_of rounds_of combine_of pair_steps steps_of step_at step_of rol_of f_of order_of shift_of k_of function_of
empty_256 = refl

-- RIPEMD-320: 22d65d5661536cdc75c1fdf5c6de7b41b9f27325ebc61e8557177d705a0ec880151c3a32a00899b8
pub empty_320 : compress_of W320 (initial_of W320) empty
    ≡ 0x565dd622 ∷ 0xdc6c5361 ∷ 0xf5fdc175 ∷ 0x417bdec6 ∷ 0x2573f2b9 ∷
    0x851ec6eb ∷ 0x707d1757 ∷ 0x80c80e5a ∷ 0x323a1c15 ∷ 0xb89908a0 ∷ []
unfolding compress_of rounds_of combine_of pair_steps steps_of step_at step_of rol_of f_of order_of shift_of k_of function_of
empty_320 = refl
