-- SHAKE256 (FIPS 202, section 6.2): KECCAK[512] of the message and the suffix 1111.
-- Assumes nothing.
use Rattle.std.specs.Prelude.{ℕ, List, [], ◌∷◌}
use Rattle.sponge.specs.Sponge.{keccak}

-- The suffix of the extendable-output functions.
unfoldable pub suffix : List ℕ
suffix = 1 ∷ 1 ∷ 1 ∷ 1 ∷ []

-- The rate: 1600 - 512 bits, in bytes.
abbrev pub rate256 : ℕ
rate256 = 136

-- The first n bytes of SHAKE256 of the bytes m.
unfoldable pub shake256 : List ℕ → ℕ → List ℕ
shake256 m n = keccak rate256 suffix m n
