-- Numbers as digits of width b, most significant first (FIPS 205, section 4.4).
-- Assumes nothing.
use Rattle.std.specs.Prelude.{List, [], ◌∷◌, ℕ, zero, suc, ◌+◌, ◌-◌, ◌*◌, ◌/◌, ◌%◌, ◌^◌, length}

-- The number that digits of width b stand for.
unfoldable pub value : (b : ℕ) → List ℕ → ℕ
value b [] = 0
value b (x ∷ xs) = x * 2 ^ (b * length xs) + value b xs

-- The last `out` digits of width b of the number x.
unfoldable pub digits : (b out x : ℕ) → List ℕ
digits b zero x = []
digits b (suc out) x = x / 2 ^ (b * out) % 2 ^ b ∷ digits b out x

-- Algorithm 2, toInt: a byte string as a big-endian number.
abbrev pub to_int : List ℕ → ℕ
to_int X = value 8 X

-- Algorithm 3, toByte: a number as n big-endian bytes.
abbrev pub to_byte : (x n : ℕ) → List ℕ
to_byte x n = digits 8 n x

-- Algorithm 4, base_2b: the first b·out bits of X, in groups of b.
unfoldable pub base2b : (X : List ℕ) (b out : ℕ) → List ℕ
base2b X b out = digits b out (to_int X / 2 ^ (8 * length X - b * out))
