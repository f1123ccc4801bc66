-- The check, layer by layer: the digest, then the forest, then each layer on what the one below it led to.
-- Assumes nothing.
use mathlib.Core.Path.{◌≡◌, refl, ap}
use Prim.Native.Nat.{ℕ, zero, suc, ◌-◌}
use lib.ListN.{drop}
use Rattle.rules.specs.Places.{Bytes, IsBytes}
use Rattle.rules.specs.Calls.{Family, under, Run, ◌>>=◌}
use Rattle.rules.specs.Layers.{layer_root, layers_root, tree_at, leaf_at}
use Rattle.rules.specs.Forest.{forest_root}
use Rattle.rules.specs.Sets.{Row}
use Rattle.rules.specs.Digest.{Pointed}
use Rattle.rules.specs.Seal.{part_start, part_length, part}
use Rattle.rules.specs.Check.{layers_part, root_at, checked_value}
use Rattle.rules.proofs.LayerLaws.{layer_root_sized}
use Rattle.rules.proofs.ForestLaws.{forest_root_sized}
use Rattle.rules.proofs.SealLaws.{next_part}

-- The tree and the leaf of layer j.
abbrev pub tree_of : Row → Pointed → (j : ℕ) → ℕ
tree_of r at j = tree_at r.h' at.tree j

abbrev pub leaf_of : Row → Pointed → (j : ℕ) → ℕ
leaf_of r at j = leaf_at r.h' at.tree at.leaf j

module _ (r : Row) (f : Family r.n r.m) (pk : Bytes) (at : Pointed) (seal : Bytes) where
  -- The forest, layer j, and the layers from layer j on with `above` more above it.
  abbrev pub forest_run : Run Bytes
  forest_run = forest_root (under f pk) at.tree at.leaf r.a at.indices (part r 1 seal)

  abbrev pub layer_run : (j : ℕ) → Run Bytes
  layer_run j =
      layer_root (under f pk) r.h' j (tree_of r at j) (leaf_of r at j) (part r (suc (suc j)) seal)
      (checked_value r f pk at seal j)

  abbrev pub layers_run : (above j : ℕ) → Run Bytes
  layers_run above j =
      layers_root (under f pk) r.h' above j (tree_of r at j) (leaf_of r at j) (checked_value r f pk at seal j)
      (drop (part_start r (suc (suc j))) seal)

  -- The check is the digest, the forest and all layers.
  pub root_run : root_at r f pk seal at ≡ (forest_run >>= λ _. layers_run (r.d - 1) 0)
  unfolding root_at layers_part checked_value tree_at leaf_at
  root_run = refl

  -- The layers from j on are layer j, and then the layers from j + 1 on.
  pub next_run : (above j : ℕ) → layers_run (suc above) j ≡ (layer_run j >>= λ _. layers_run above (suc j))
  unfolding layers_root part part_length tree_at leaf_at checked_value
  next_run above j =
      ap (λ (x : Bytes). layer_run j >>= λ root. layers_root (under f pk) r.h' above (suc j) (tree_of r at (suc j))
      (leaf_of r at (suc j)) root x) (next_part r j seal)

  -- Every value that the check takes digits of has n bytes.
  pub checked_sized : (j : ℕ) → IsBytes r.n (checked_value r f pk at seal j)
  unfolding checked_value
  checked_sized zero = forest_root_sized (under f pk) at.tree at.leaf r.a at.indices (part r 1 seal)
  checked_sized (suc j) =
      layer_root_sized (under f pk) r.h' j (tree_of r at j) (leaf_of r at j) (part r (suc (suc j)) seal)
      (checked_value r f pk at seal j)
