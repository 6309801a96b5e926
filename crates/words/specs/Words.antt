-- 32-bit words, as the RIPEMD-160 paper has them: numbers below 2^32, their sum, the cyclic shift, and the five functions.
-- Assumes nothing.
use Rattle.std.specs.Prelude.{ℕ, zero, suc, ◌+◌, ◌-◌, ◌*◌, ◌/◌, ◌%◌, ◌^◌, Bool, true, false, ◌&&◌, List, [], ◌∷◌, ◌==◌, bit_and, bit_or, bit_xor}

-- addition modulo 2^32
abbrev pub add_of : ℕ → ℕ → ℕ
add_of x y = (x + y) % 2 ^ 32

-- each of the 32 bits turned over
abbrev pub not_of : ℕ → ℕ
not_of x = (2 ^ 32 - 1) - x

-- rol_s: the bits of x move s places up, and the s bits that fall out come in below
unfoldable pub rol_of : ℕ → ℕ → ℕ
rol_of s x = (x * 2 ^ s) % 2 ^ 32 + x / 2 ^ (32 - s)

-- the paper's f(j, x, y, z), one line for each sixteen steps j
unfoldable pub f_of : ℕ → ℕ → ℕ → ℕ → ℕ
f_of zero x y z = bit_xor (bit_xor x y) z
f_of (suc zero) x y z = bit_or (bit_and x y) (bit_and (not_of x) z)
f_of (suc (suc zero)) x y z = bit_xor (bit_or x (not_of y)) z
f_of (suc (suc (suc zero))) x y z = bit_or (bit_and x z) (bit_and y (not_of z))
f_of (suc (suc (suc (suc n)))) x y z = bit_xor x (bit_or y (not_of z))

-- whether two lists are the same, word by word
abbrev pub same_of : List ℕ → List ℕ → Bool
same_of [] [] = true
same_of [] (y ∷ ys) = false
same_of (x ∷ xs) [] = false
same_of (x ∷ xs) (y ∷ ys) = x == y && same_of xs ys
