-- Seals and their parts (FIPS 205, sections 9.2 and 10.2.1).
-- Assumes nothing.
use Rattle.std.specs.Prelude.{[], ◌∷◌, ◌++◌, ℕ, zero, suc, ◌+◌, ◌-◌, ◌*◌, length, take, drop}
use Rattle.std.proofs.Math.Option.{none}
use Rattle.rules.specs.Places.{Bytes}
use Rattle.rules.specs.Calls.{randomizer, digest, Family, Hashes, under, Run, return, ◌>>=◌}
use Rattle.rules.specs.Layers.{layer_bytes, tree_at, own_root, layers_seal}
use Rattle.rules.specs.Forest.{forest_bytes, own_forest, forest_seal, forest_root}
use Rattle.rules.specs.Sets.{Row}
use Rattle.rules.specs.Digest.{Pointed, pointed}
use Rattle.rules.specs.Keys.{piece}

-- Algorithm 22, slh_sign, line 8: what is sealed is a message framed with its context.
pub data Frame : Type 0 where
  plain : (context message : Bytes) → Frame

unfoldable pub frame : Frame → Bytes
frame (plain context message) = 0 ∷ length context ∷ (context ++ message)

-- Algorithm 19, line 2: the mixed-in bytes are the randomizer input, or the public seed where there is none.
unfoldable pub mixed_in : (random pk_seed : Bytes) → Bytes
mixed_in [] pk_seed = pk_seed
mixed_in (x ∷ xs) pk_seed = x ∷ xs

-- M is a framed message throughout.
module _ (r : Row) (f : Family r.n r.m) where
  -- Algorithm 19, line 3: the randomizer R, with its call.
  unfoldable pub randomizer_of : (sk_prf mixed M : Bytes) → Run Bytes
  randomizer_of sk_prf mixed M = record {
    result = f.prf_msg sk_prf mixed M;
    calls = record { kind = randomizer; place = none; input = sk_prf ++ (mixed ++ M) } ∷ [];
  }

  -- Algorithm 19, line 5: the message digest, with its call.
  unfoldable pub digest_of : (R pk_seed root M : Bytes) → Run Bytes
  digest_of R pk_seed root M = record {
    result = f.h_msg R pk_seed root M;
    calls = record { kind = digest; place = none; input = R ++ (pk_seed ++ (root ++ M)) } ∷ [];
  }

  -- Algorithm 19, lines 11 to 17: what the sealing rules write from the seeds for the place that the digest points to.
  unfoldable pub written : (sk_seed pk_seed : Bytes) (at : Pointed) → Run Bytes
  written sk_seed pk_seed at =
      let w : Hashes = under f pk_seed in
      do
        forest ← forest_seal w at.tree at.leaf r.a sk_seed 0 at.indices
        v ← forest_root w at.tree at.leaf r.a at.indices forest
        layers ← layers_seal w r.h' sk_seed (r.d - 1) 0 at.tree at.leaf v
        return (forest ++ layers)

  -- Algorithm 19, lines 4 to 18: the seal with the randomizer R in place of the derived one.
  unfoldable pub seal_with : (R sk_seed pk_seed root M : Bytes) → Run Bytes
  seal_with R sk_seed pk_seed root M = do
    D ← digest_of R pk_seed root M
    rest ← written sk_seed pk_seed (pointed r D)
    return (R ++ rest)

  -- Algorithm 19, slh_sign_internal, on a secret key as bytes: secret seed, prf seed, public seed, root.
  unfoldable pub seal_of : (secret random M : Bytes) → Run Bytes
  seal_of secret random M = do
    R ← randomizer_of (piece r.n 1 secret) (mixed_in random (piece r.n 2 secret)) M
    seal_with R (piece r.n 0 secret) (piece r.n 2 secret) (piece r.n 3 secret) M

-- ---- The parts of a seal: 0 the randomizer, 1 the forest, 2 + j layer j (figure 17)

unfoldable pub part_start : Row → (number : ℕ) → ℕ
part_start r zero = 0
part_start r (suc zero) = r.n
part_start r (suc (suc j)) = r.n + forest_bytes r.n r.a r.k + j * layer_bytes r.n r.h'

unfoldable pub part_length : Row → (number : ℕ) → ℕ
part_length r zero = r.n
part_length r (suc zero) = forest_bytes r.n r.a r.k
part_length r (suc (suc j)) = layer_bytes r.n r.h'

unfoldable pub part : Row → (number : ℕ) (seal : Bytes) → Bytes
part r number seal = take (part_length r number) (drop (part_start r number) seal)

-- ---- What the holder seals, at the place that the digest points to

module _ (r : Row) (f : Family r.n r.m) (pk_seed : Bytes) (at : Pointed) where
  -- The value that the holder seals in a layer: the own forest, then the root of the own tree below.
  unfoldable pub held_value : (sk_seed : Bytes) (layer : ℕ) → Bytes
  held_value sk_seed zero = (own_forest (under f pk_seed) at.tree at.leaf r.a sk_seed r.k).result
  held_value sk_seed (suc j) = (own_root (under f pk_seed) r.h' sk_seed j (tree_at r.h' at.tree j)).result
