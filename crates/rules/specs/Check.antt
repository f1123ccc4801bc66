-- The check of a seal (FIPS 205, section 9.3).
-- Assumes nothing.
use Rattle.std.specs.Prelude.{◌≡◌, ℕ, zero, suc, ◌-◌, length, drop}
use Rattle.rules.specs.Places.{Bytes}
use Rattle.rules.specs.Calls.{Family, Hashes, under, Run, ◌>>=◌}
use Rattle.rules.specs.Layers.{tree_at, leaf_at, layer_root, layers_root}
use Rattle.rules.specs.Forest.{forest_root}
use Rattle.rules.specs.Sets.{Row}
use Rattle.rules.specs.Digest.{Pointed, pointed}
use Rattle.rules.specs.Keys.{piece}
use Rattle.rules.specs.Seal.{digest_of, part_start, part}

module _ (r : Row) (f : Family r.n r.m) where
  -- The bytes of all the layers of a seal.
  unfoldable pub layers_part : (seal : Bytes) → Bytes
  layers_part seal = drop (part_start r 2) seal

  -- Algorithm 20, lines 14 to 18 up to the comparison: the root that a seal leads to, at the place pointed to.
  unfoldable pub root_at : (pk_seed seal : Bytes) (at : Pointed) → Run Bytes
  root_at pk_seed seal at =
      let w : Hashes = under f pk_seed in
      do
        v ← forest_root w at.tree at.leaf r.a at.indices (part r 1 seal)
        layers_root w r.h' (r.d - 1) 0 at.tree at.leaf v (layers_part seal)

  -- Algorithm 20, slh_verify_internal, lines 5 to 18, on a public key as bytes and a framed message M.
  unfoldable pub checked_root : (public M seal : Bytes) → Run Bytes
  checked_root public M seal = do
    D ← digest_of r f (part r 0 seal) (piece r.n 0 public) (piece r.n 1 public) M
    root_at (piece r.n 0 public) seal (pointed r D)

  -- Algorithm 20: the seal has its length, and the recomputed root is the key's.
  pub record Accepted (public M seal : Bytes) : Type 0 where
    pub long : length seal ≡ r.seal_bytes
    pub same_root : (checked_root public M seal).result ≡ piece r.n 1 public

-- A seal read at the place that the digest points to.
module _ (r : Row) (f : Family r.n r.m) (pk_seed : Bytes) (at : Pointed) where
  -- The value that the check takes the digits of in a layer: what layer 0 seals, then each root that a layer leads to.
  unfoldable pub checked_value : (seal : Bytes) (layer : ℕ) → Bytes
  checked_value seal zero =
      (forest_root (under f pk_seed) at.tree at.leaf r.a at.indices (part r 1 seal)).result
  checked_value seal (suc j) =
      (layer_root (under f pk_seed) r.h' j (tree_at r.h' at.tree j) (leaf_at r.h' at.tree at.leaf j)
      (part r (suc (suc j)) seal) (checked_value seal j)).result
