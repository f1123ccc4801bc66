-- SHAKE256 of "abc" is what Python's hashlib gives: antt computes the definition alone.
-- Assumes nothing.
use mathlib.Core.Path.{◌≡◌, refl}
use mathlib.Core.List.{[], ◌∷◌}
use Rattle.keccak.specs.Constants.{walk, offsets, register, rc, constant_bits, constant}
use Rattle.keccak.specs.Keccak.{rotated, inverted, lane, each, state, C, D, θ, ρ, π, χ, ι, round, rounds, keccak_f}
use Rattle.shake.specs.Shake.{suffix, shake256}
use Rattle.sponge.specs.Sponge.{digits, number, spread, gather, pad, padded, ◌⊕◌, absorb, squeeze, keccak}

-- The first 32 bytes.
pub abc : shake256 (0x61 ∷ 0x62 ∷ 0x63 ∷ []) 32
    ≡ 0x48 ∷ 0x33 ∷ 0x66 ∷ 0x60 ∷ 0x13 ∷ 0x60 ∷ 0xa8 ∷ 0x77 ∷ 0x1c ∷ 0x68 ∷ 0x63 ∷ 0x08 ∷ 0x0c ∷ 0xc4 ∷ 0x11 ∷ 0x4d
    ∷ 0x8d ∷ 0xb4 ∷ 0x45 ∷ 0x30 ∷ 0xf8 ∷ 0xf1 ∷ 0xe1 ∷ 0xee ∷ 0x4f ∷ 0x94 ∷ 0xea ∷ 0x37 ∷ 0xe7 ∷ 0x8b ∷ 0x57 ∷ 0x39 ∷ []
unfolding walk offsets register rc constant_bits constant rotated inverted lane each state C D θ ρ π χ ι round rounds
    keccak_f suffix shake256 digits number spread gather pad padded ◌⊕◌ absorb squeeze keccak
abc = refl
