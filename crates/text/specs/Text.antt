-- Text as lists of ASCII bytes.
-- Assumes nothing.
use Rattle.std.specs.Prelude.{ℕ, zero, suc, ◌+◌, ◌-◌, ◌/◌, ◌%◌, Bool, cond, List, [], ◌∷◌, ◌++◌, leb, ltb, length, take, drop}
use Prim.Native.Char.{code}
use Prim.Native.String as string

-- a quoted text as bytes
abbrev pub ascii : string.String → List ℕ
ascii string.[] = []
ascii (string.◌∷◌ c s) = code c ∷ ascii s

-- x in decimal, where n digits are enough for it: the digits of a tenth of it, then the last one
unfoldable pub digits_of : ℕ → ℕ → List ℕ
digits_of zero x = []
digits_of (suc n) x = cond (ltb x 10) ((48 + x) ∷ []) (digits_of n (x / 10) ++ ((48 + x % 10) ∷ []))

-- a number in decimal, without leading zeros: 20 digits are enough for each below 2^64
unfoldable pub decimal_of : ℕ → List ℕ
decimal_of x = digits_of 20 x

-- the hex digit of a number below 16: 0 to 9, then a to f
unfoldable pub hex_digit : ℕ → ℕ
hex_digit d = cond (ltb d 10) (48 + d) (97 + (d - 10))

-- two hex digits a byte, high half first
abbrev pub hex_of : List ℕ → List ℕ
hex_of [] = []
hex_of (b ∷ bs) = hex_digit (b / 16) ∷ hex_digit (b % 16) ∷ hex_of bs

-- a line: key=value, and a line feed
abbrev pub line_of : string.String → List ℕ → List ℕ
line_of key value = ascii key ++ ascii "=" ++ value ++ ascii "\n"

-- the text t with s behind it, where n bytes are enough for both; else t as it was
unfoldable pub appended : ℕ → List ℕ → List ℕ → List ℕ
appended n t s = cond (leb (length t + length s) n) (t ++ s) t

-- the buffer o has room for the text t from the place at on
abbrev pub fits : List ℕ → ℕ → List ℕ → Bool
fits o at t = leb (at + length t) (length o)

-- the buffer with the text at the place, where it fits; else the buffer as it was
unfoldable pub put_at : List ℕ → ℕ → List ℕ → List ℕ
put_at o at t = cond (fits o at t) (take at o ++ t ++ drop (at + length t) o) o
