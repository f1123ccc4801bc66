-- The offsets of ρ and the round constants of ι, by their rules (FIPS 202, sections 3.2.2 and 3.2.5).
-- Assumes nothing.
use Rattle.std.specs.Prelude.{ℕ, zero, suc, ◌+◌, ◌-◌, ◌*◌, ◌/◌, ◌%◌, ◌^◌, List, set, replicate}
use Rattle.std.specs.Int.Bits.{bit_xor}

-- Algorithm 2, step 3: n lanes from (x, y) on, each with its offset (t + 1)(t + 2)/2 modulo 64; the lane after (x, y)
-- is (y, 2x + 3y).
unfoldable pub walk : ℕ → ℕ → ℕ → ℕ → List ℕ → List ℕ
walk zero t x y o = o
walk (suc n) t x y o = walk n (suc t) y ((2 * x + 3 * y) % 5) (set o (5 * y + x) ((t + 1) * (t + 2) / 2 % 64))

-- Algorithm 2: how far ρ rotates the lane at column x and row y, at 5y + x. The walk starts at (1, 0) and never comes
-- to (0, 0).
unfoldable pub offsets : List ℕ
offsets = walk 24 0 1 0 (replicate 25 0)

-- Algorithm 5, step 3: the register R after t steps, R[0] its lowest bit. R becomes 0 ‖ R, and bit 8 is added to bits
-- 0, 4, 5 and 6.
unfoldable pub register : ℕ → ℕ
register zero = 1
register (suc t) = let r : ℕ = 2 * register t in bit_xor (r % 256) (r / 256 * 0b0111_0001)

-- Algorithm 5: the bit rc(t).
unfoldable pub rc : ℕ → ℕ
rc t = register (t % 255) % 2

-- Algorithm 6, steps 2 and 3: the constant of round i. Its bit 2^j - 1 is rc(j + 7i), for j from 0 to 6.
unfoldable pub constant_bits : ℕ → ℕ → ℕ
constant_bits zero i = 0
constant_bits (suc j) i = constant_bits j i + rc (j + 7 * i) * 2 ^ (2 ^ j - 1)

unfoldable pub constant : ℕ → ℕ
constant i = constant_bits 7 i
