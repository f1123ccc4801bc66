-- The tree of a layer, its seal, and the layers one above the other (FIPS 205, sections 6 and 7).
-- Assumes nothing.
use Rattle.std.specs.Prelude.{◌++◌, ℕ, zero, suc, ◌+◌, ◌*◌, ◌/◌, ◌%◌, ◌^◌, take, drop}
use Rattle.rules.specs.Places.{Bytes, tree_node}
use Rattle.rules.specs.Calls.{Hashes, Run, return, ◌>>=◌}
use Rattle.rules.specs.Chains.{chains, chain_digits, leaf, shown, leaf_from}
use Rattle.rules.specs.Trees.{Tree, node, path, climb}

-- The bytes of a layer's chain values, and of its part of a seal: the chain values, then the path.
unfoldable pub chain_bytes : (n : ℕ) → ℕ
chain_bytes n = chains n * n

unfoldable pub layer_bytes : (n h' : ℕ) → ℕ
layer_bytes n h' = chain_bytes n + h' * n

-- ---- Which tree and which leaf a layer has, counted from layer 0, whose tree and leaf a digest points to

-- One layer up, leaf = tree mod 2^h' and tree = tree div 2^h': algorithms 12, lines 7 and 8, and 13, lines 6 and 7.
abbrev pub leaf_above : (h' tree : ℕ) → ℕ
leaf_above h' tree = tree % 2 ^ h'

abbrev pub tree_above : (h' tree : ℕ) → ℕ
tree_above h' tree = tree / 2 ^ h'

unfoldable pub tree_at : (h' tree layer : ℕ) → ℕ
tree_at h' tree zero = tree
tree_at h' tree (suc j) = tree_above h' (tree_at h' tree j)

unfoldable pub leaf_at : (h' tree leaf layer : ℕ) → ℕ
leaf_at h' tree leaf zero = leaf
leaf_at h' tree leaf (suc j) = leaf_above h' (tree_at h' tree j)

-- ---- The tree of a layer

module _ (w : Hashes) where
  -- A tree of a layer: its leaves are those of the chains.
  abbrev pub layer_tree : (sk_seed : Bytes) (layer tree : ℕ) → Tree
  layer_tree sk_seed layer tree = record { leaf = λ i. leaf w layer tree i sk_seed; place = tree_node layer tree }

  -- The root of a tree of a layer: algorithm 9, xmss_node, at height h' and index 0.
  unfoldable pub own_root : (h' : ℕ) (sk_seed : Bytes) (layer tree : ℕ) → Run Bytes
  own_root h' sk_seed layer tree = node w (layer_tree sk_seed layer tree) h' 0

  module _ (h' : ℕ) where
    -- Algorithm 10, xmss_sign: the path is worked out first, and stands last.
    unfoldable pub layer_seal : (sk_seed : Bytes) (layer tree i : ℕ) (M : Bytes) → Run Bytes
    layer_seal sk_seed layer tree i M = do
      auth ← path w (layer_tree sk_seed layer tree) h' 0 i
      sig ← shown w layer tree i sk_seed 0 (chain_digits w.n M)
      return (sig ++ auth)

    -- Algorithm 11, xmss_pkFromSig.
    unfoldable pub layer_root : (layer tree i : ℕ) (sig M : Bytes) → Run Bytes
    layer_root layer tree i sig M = do
      v ← leaf_from w layer tree i (take (chain_bytes w.n) sig) M
      climb w (tree_node layer tree) h' 0 i v (drop (chain_bytes w.n) sig)

    -- Algorithm 12, ht_sign, from a layer on that has `above` more layers above it.
    unfoldable pub layers_seal : (sk_seed : Bytes) (above layer tree i : ℕ) (M : Bytes) → Run Bytes
    layers_seal sk_seed zero layer tree i M = layer_seal sk_seed layer tree i M
    layers_seal sk_seed (suc above) layer tree i M = do
      sig ← layer_seal sk_seed layer tree i M
      root ← layer_root layer tree i sig M
      rest ← layers_seal sk_seed above (suc layer) (tree_above h' tree) (leaf_above h' tree) root
      return (sig ++ rest)

    -- Algorithm 13, ht_verify, up to its comparison.
    unfoldable pub layers_root : (above layer tree i : ℕ) (M sig : Bytes) → Run Bytes
    layers_root zero layer tree i M sig = layer_root layer tree i sig M
    layers_root (suc above) layer tree i M sig = do
      root ← layer_root layer tree i (take (layer_bytes w.n h') sig) M
      layers_root above (suc layer) (tree_above h' tree) (leaf_above h' tree) root (drop (layer_bytes w.n h') sig)
