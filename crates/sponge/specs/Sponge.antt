-- The sponge of KECCAK-f[1600] with pad10*1 (FIPS 202, sections 4 and 5; appendix B.1 for bits and bytes). The rate r
-- is in bytes; strings of bits and of bytes are lists, and a byte's or a lane's lowest part comes first.
-- Assumes nothing.
use Rattle.std.specs.Prelude.{ℕ, zero, suc, ◌+◌, ◌-◌, ◌*◌, ◌/◌, ◌%◌, ◌^◌, List, [], ◌∷◌, ◌++◌, length, take, drop}
use Rattle.std.specs.Prelude.{replicate}
use Rattle.std.specs.Int.Bits.{bit_xor}
use Rattle.keccak.specs.Keccak.{keccak_f}

-- The n lowest digits of a, each of w bits.
unfoldable pub digits : ℕ → ℕ → ℕ → List ℕ
digits w zero a = []
digits w (suc n) a = a % 2 ^ w ∷ digits w n (a / 2 ^ w)

-- The number with these digits, each of w bits.
unfoldable pub number : ℕ → List ℕ → ℕ
number w [] = 0
number w (d ∷ p) = d + 2 ^ w * number w p

-- The digits of each number of a list, n of w bits.
unfoldable pub spread : ℕ → ℕ → List ℕ → List ℕ
spread w n [] = []
spread w n (a ∷ s) = digits w n a ++ spread w n s

-- The k numbers with these digits, n of w bits each.
unfoldable pub gather : ℕ → ℕ → ℕ → List ℕ → List ℕ
gather w n zero p = []
gather w n (suc k) p = number w (take n p) ∷ gather w n k (drop n p)

-- Appendix B.1: bytes and their bits. Sections 3.1.2 and 3.1.3: lanes and their bytes.
abbrev pub bits : List ℕ → List ℕ
bits m = spread 1 8 m

abbrev pub bytes : ℕ → List ℕ → List ℕ
bytes n p = gather 1 8 n p

abbrev pub lanes : List ℕ → List ℕ
lanes b = gather 8 8 25 b

abbrev pub string : List ℕ → List ℕ
string s = spread 8 8 s

-- Algorithm 9, pad10*1(x, m): 1, then (-m - 2) mod x times 0, then 1.
unfoldable pub pad : ℕ → ℕ → List ℕ
pad x m = 1 ∷ replicate ((x - (m + 2) % x) % x) 0 ++ 1 ∷ []

-- Algorithm 8, step 1: the bits m, padded to whole blocks of r bytes, as bytes.
unfoldable pub padded : ℕ → List ℕ → List ℕ
padded r m =
    let p : List ℕ = m ++ pad (8 * r) (length m) in
    bytes (length p / 8) p

infixl 60 ◌⊕◌
-- Two states added, lane by lane.
unfoldable pub ◌⊕◌ : List ℕ → List ℕ → List ℕ
[] ⊕ t = []
(a ∷ s) ⊕ [] = a ∷ s
(a ∷ s) ⊕ (b ∷ t) = bit_xor a b ∷ (s ⊕ t)

-- Algorithm 8, steps 5 and 6: n blocks of p absorbed, one after the other, each with zeros for the capacity.
unfoldable pub absorb : ℕ → ℕ → List ℕ → List ℕ → List ℕ
absorb r zero p s = s
absorb r (suc n) p s = absorb r n (drop r p) (keccak_f (s ⊕ lanes (take r p ++ replicate (200 - r) 0)))

-- Algorithm 8, steps 7 to 10: a block squeezed, and n more.
unfoldable pub squeeze : ℕ → ℕ → List ℕ → List ℕ
squeeze r zero s = take r (string s)
squeeze r (suc n) s = take r (string s) ++ squeeze r n (keccak_f s)

-- Section 5.2: n bytes of KECCAK[1600 - 8r] of the bytes m and the bits of the suffix, from as many blocks as they take
-- and at least one.
unfoldable pub keccak : ℕ → List ℕ → List ℕ → ℕ → List ℕ
keccak r suffix m n =
    let p : List ℕ = padded r (bits m ++ suffix) in
    take n (squeeze r ((n - 1) / r) (absorb r (length p / r) p (replicate 25 0)))
