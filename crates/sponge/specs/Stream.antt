-- The sponge of an extendable-output function as a stream of bytes, which the code follows: the lanes, and the place of
-- the next byte. That bytes fed, finished and drawn are FIPS 202's sponge is a law, `shaken`.
-- Assumes nothing.
use Rattle.std.specs.Prelude.{ℕ, zero, suc, ◌+◌, ◌-◌, ◌*◌, ◌/◌, ◌%◌, ◌^◌, ◌≤◌, ◌<◌, ◌≡◌, cond, List, [], ◌∷◌, get_or}
use Rattle.std.specs.Prelude.{set, replicate, leb}
use Rattle.std.specs.Int.Bits.{bit_xor}
use Rattle.keccak.specs.Keccak.{keccak_f}

pub record Sponge : Type 0 where
  pub lanes : List ℕ
  pub at : ℕ

-- A rate of whole lanes, at least one and at most all.
abbrev pub Rate : ℕ → Type 0
Rate r = (r % 8 ≡ 0) × (0 < r) × (r ≤ 200)

abbrev pub sponge : List ℕ → ℕ → Sponge
sponge s i = record { lanes = s; at = i }

-- Before the first byte.
abbrev pub empty : Sponge
empty = sponge (replicate 25 0) 0

-- The byte at place i of the lanes, a lane's lowest byte first.
unfoldable pub byte_of : List ℕ → ℕ → ℕ
byte_of s i = get_or s (i / 8) 0 / 2 ^ (8 * (i % 8)) % 256

-- The lanes with b added to the byte at place i.
unfoldable pub mixed : List ℕ → ℕ → ℕ → List ℕ
mixed s i b = set s (i / 8) (bit_xor (get_or s (i / 8) 0) (b * 2 ^ (8 * (i % 8))))

-- Past the rate r, the lanes are permuted and the place is the first.
unfoldable pub turn : ℕ → Sponge → Sponge
turn r k = cond (leb r k.at) (sponge (keccak_f k.lanes) 0) k

-- A byte goes in.
unfoldable pub step : ℕ → Sponge → Sponge
step b k = sponge (mixed k.lanes k.at b) (k.at + 1)

-- Of a number that is no byte its low byte goes in, so that the laws hold of every list.
unfoldable pub put : ℕ → Sponge → ℕ → Sponge
put r k b = step (b % 256) (turn r k)

unfoldable pub feed : ℕ → Sponge → List ℕ → Sponge
feed r k [] = k
feed r k (b ∷ m) = feed r (put r k b) m

-- The suffix 1111 with the padding's first bit, and the padding's last bit at the block's end.
unfoldable pub close : ℕ → Sponge → Sponge
close r k = sponge (mixed (mixed k.lanes k.at 0x1f) (r - 1) 0x80) r

unfoldable pub finish : ℕ → Sponge → Sponge
finish r k = close r (turn r k)

-- The sponge after n bytes have come out, and those bytes.
unfoldable pub past : Sponge → Sponge
past k = sponge k.lanes (k.at + 1)

unfoldable pub drawn : ℕ → ℕ → Sponge → Sponge
drawn r zero k = k
drawn r (suc n) k = drawn r n (past (turn r k))

unfoldable pub draw : ℕ → ℕ → Sponge → List ℕ
draw r zero k = []
draw r (suc n) k = byte_of (turn r k).lanes (turn r k).at ∷ draw r n (past (turn r k))
