-- KECCAK-f[1600] (FIPS 202, sections 3.2 to 3.4). A state is the list of its 25 lanes, numbers below 2^64; lane (x, y)
-- is at 5y + x.
-- Assumes nothing.
use Rattle.std.specs.Prelude.{ℕ, zero, suc, ◌+◌, ◌-◌, ◌*◌, ◌/◌, ◌%◌, ◌^◌, List, [], ◌∷◌, get_or, set}
use Rattle.std.specs.Int.Bits.{bit_xor, bit_and}
use Rattle.keccak.specs.Constants.{offsets, constant}

-- A lane with its bit z at z + n modulo 64.
unfoldable pub rotated : ℕ → ℕ → ℕ
rotated n a = a % 2 ^ (64 - n) * 2 ^ n + a / 2 ^ (64 - n)

-- A lane with each bit inverted.
unfoldable pub inverted : ℕ → ℕ
inverted a = 2 ^ 64 - 1 - a

-- The lane at column x and row y, each modulo 5 (section 3.1.2).
unfoldable pub lane : List ℕ → ℕ → ℕ → ℕ
lane s x y = get_or s (5 * (y % 5) + x % 5) 0

-- The values of f at n numbers from i on.
unfoldable pub each : (ℕ → ℕ) → ℕ → ℕ → List ℕ
each f i zero = []
each f i (suc n) = f i ∷ each f (suc i) n

-- The state whose lane at column x and row y is f x y.
unfoldable pub state : (ℕ → ℕ → ℕ) → List ℕ
state f = each (λ i. f (i % 5) (i / 5)) 0 25

-- Algorithm 1, θ: C is the parity of a column, D that of the column before and, rotated by one, of the column after.
unfoldable pub C : List ℕ → ℕ → ℕ
C s x = bit_xor (bit_xor (bit_xor (bit_xor (lane s x 0) (lane s x 1)) (lane s x 2)) (lane s x 3)) (lane s x 4)

unfoldable pub D : List ℕ → ℕ → ℕ
D s x = bit_xor (C s (x + 4)) (rotated 1 (C s (x + 1)))

unfoldable pub θ : List ℕ → List ℕ
θ s = state (λ x y. bit_xor (lane s x y) (D s x))

-- Algorithm 2, ρ: each lane rotated by its offset.
unfoldable pub ρ : List ℕ → List ℕ
ρ s = state (λ x y. rotated (lane offsets x y) (lane s x y))

-- Algorithm 3, π: the lane at (x, y) comes from (x + 3y, x).
unfoldable pub π : List ℕ → List ℕ
π s = state (λ x y. lane s (x + 3 * y) x)

-- Algorithm 4, χ: each lane with the two after it in its row.
unfoldable pub χ : List ℕ → List ℕ
χ s = state (λ x y. bit_xor (lane s x y) (bit_and (inverted (lane s (x + 1) y)) (lane s (x + 2) y)))

-- Algorithm 6, ι: the first lane with the round constant c.
unfoldable pub ι : ℕ → List ℕ → List ℕ
ι c s = set s 0 (bit_xor (get_or s 0 0) c)

-- Section 3.3: Rnd with the round constant c.
unfoldable pub round : ℕ → List ℕ → List ℕ
round c s = ι c (χ (π (ρ (θ s))))

-- The first n of the 24 rounds, each with its constant. Algorithm 7, KECCAK-p, runs the last n; of 24 both are all.
unfoldable pub rounds : ℕ → List ℕ → List ℕ
rounds zero s = s
rounds (suc n) s = round (constant n) (rounds n s)

-- Section 3.4, KECCAK-f: all 24.
unfoldable pub keccak_f : List ℕ → List ℕ
keccak_f s = rounds 24 s
