-- A key, a seal and a check worked out for a row small enough to compute, with a stand-in for SHAKE256. The numbers are
-- those of the second program on the same row and the same stand-in.
-- Assumes nothing.
use mathlib.Core.Path.{◌≡◌, refl}
use mathlib.Core.List.{List, [], ◌∷◌, ◌++◌}
use Prim.Native.Nat.{ℕ, ◌+◌, ◌*◌, ◌%◌}
use lib.ListN.{length, replicate}
use Rattle.rules.specs.Digits.{value, digits, to_byte, base2b}
use Rattle.rules.specs.Places.{Bytes, IsBytes, words, address}
use Rattle.rules.specs.Calls.{F, H, T, PRF, Kind, of, randomizer, digest, Call, address_of, Family, Run}
use Rattle.rules.specs.Chains.{steps, own_digits, checksum, chain_digits, chain, ends, leaf, shown, walk, leaf_from}
use Rattle.rules.specs.Trees.{join, sibling, node, path, climb}
use Rattle.rules.specs.Layers.{chain_bytes, layer_bytes, own_root, layer_seal, layer_root, layers_seal, layers_root}
use Rattle.rules.specs.Forest.{tree_bytes, forest_bytes, forest_leaf, forest_seal, forest_walk, forest_root}
use Rattle.rules.specs.Sets.{Row, row}
use Rattle.rules.specs.Digest.{last_bits, pointed}
use Rattle.rules.specs.Keys.{key_root, public_key, secret_key}
use Rattle.rules.specs.Seal.{plain, frame, mixed_in, randomizer_of, digest_of, written, seal_with, seal_of, part_start}
use Rattle.rules.specs.Seal.{part_length, part}
use Rattle.rules.specs.Check.{layers_part, root_at, checked_root}
use Rattle.counts.specs.Counts.{is, count}
use Rattle.rules.proofs.DigitLaws.{length_digits, digits_below}

-- The stand-in: each byte is stirred into a number below 2^31 - 1, and the last bytes of its square, times a constant,
-- are handed out. Every function has a letter, so that one in place of another is seen.
stir : ℕ → Bytes → ℕ
stir acc [] = acc
stir acc (x ∷ xs) = stir ((acc * 48271 + x + 1) % 2147483647) xs

stand_in : Bytes → ℕ → Bytes
stand_in x n = to_byte (stir 1 x * stir 1 x * 16777619) n

stand_in_sized : (x : Bytes) (n : ℕ) → IsBytes n (stand_in x n)
unfolding stand_in
stand_in_sized x n = record { long = length_digits 8 n _; small = digits_below 8 n _ }

-- 'F', 'H', 'T', 'S', 'R' and 'D'.
abbrev letter : Kind → ℕ
letter (of F) = 0x46
letter (of H) = 0x48
letter (of T) = 0x54
letter (of PRF) = 0x53
letter randomizer = 0x52
letter digest = 0x44

abbrev stood : Family 9 3
stood = record {
  hash = λ g s a x. stand_in (letter (of g) ∷ (s ++ (a ++ x))) 9;
  prf_msg = λ s o M. stand_in (letter randomizer ∷ (s ++ (o ++ M))) 9;
  h_msg = λ R s root M. stand_in (letter digest ∷ (R ++ (s ++ (root ++ M)))) 3;
  hash_sized = λ g s a x. stand_in_sized _ 9;
  prf_msg_sized = λ s o M. stand_in_sized _ 9;
  h_msg_sized = λ R s root M. stand_in_sized _ 3;
}

-- n = 9 is the least n whose checksum needs three digits.
small : Row
small = row 0 9 4 2 2 2 3 3 18 36 504

seed : ℕ → Bytes
seed x = replicate 9 x

message : Bytes
message = frame (plain [] (0x53 ∷ 0x6B ∷ 0x69 ∷ []))

-- A list of calls as bytes: of each its letter, its address and its input.
told : List Call → Bytes
told [] = []
told (c ∷ cs) = letter c.kind ∷ (address_of c.place ++ (c.input ++ told cs))

-- Stirred: public key, secret key, the deterministic seal, a hedged one, and the calls of the first's sealing and
-- check; then how many calls its sealing makes, and the F, H, T and digest calls of its check.
worked : List ℕ
unfolding
    small seed message stand_in stir told value digits base2b words address steps own_digits checksum chain_digits chain
    ends leaf shown walk leaf_from join sibling node path climb chain_bytes layer_bytes own_root layer_seal layer_root
    layers_seal layers_root tree_bytes forest_bytes forest_leaf forest_seal forest_walk forest_root last_bits pointed
    key_root public_key secret_key frame mixed_in randomizer_of digest_of written seal_with seal_of part_start
    part_length part layers_part root_at checked_root is count
worked =
    let public : Bytes = public_key small stood (seed 1) (seed 3) in
    let secret : Bytes = secret_key small stood (seed 1) (seed 2) (seed 3) in
    let seal : Run Bytes = seal_of small stood secret [] message in
    let hedged : Run Bytes = seal_of small stood secret (seed 4) message in
    let check : Run Bytes = checked_root small stood public message seal.result in
    stir 1 public ∷ stir 1 secret ∷ stir 1 seal.result ∷ stir 1 hedged.result
    ∷ stir 1 (told seal.calls) ∷ stir 1 (told check.calls) ∷ length seal.calls
    ∷ count (of F) check.calls ∷ count (of H) check.calls ∷ count (of T) check.calls
    ∷ count digest check.calls ∷ []

sample : worked
    ≡ 1654757209 ∷ 1356366303 ∷ 805950077 ∷ 1807314371 ∷ 575780735 ∷ 526781948 ∷ 2555 ∷ 348 ∷ 10 ∷ 3 ∷ 1 ∷ []
unfolding worked
sample = refl
