-- The forest that seals a digest (FIPS 205, section 8).
-- Assumes nothing.
use Rattle.std.specs.Prelude.{List, [], ◌∷◌, ◌++◌, ℕ, zero, suc, ◌+◌, ◌*◌, ◌^◌, take, drop}
use Rattle.rules.specs.Places.{Bytes, forest_node, forest_roots, forest_secret}
use Rattle.rules.specs.Calls.{F, T, PRF, Hashes, Run, return, ◌>>=◌, ask}
use Rattle.rules.specs.Trees.{Tree, node, path, climb}

-- The bytes of a tree's part of a seal, a secret value and a path, and of the forest's.
unfoldable pub tree_bytes : (n a : ℕ) → ℕ
tree_bytes n a = n + a * n

unfoldable pub forest_bytes : (n a k : ℕ) → ℕ
forest_bytes n a k = k * tree_bytes n a

-- Tree and key pair are the ones that the digest points to.
module _ (w : Hashes) (tree pair : ℕ) where
  -- Algorithms 14, fors_skGen, and 15, fors_node, lines 2 to 5: a leaf is F of its secret value.
  unfoldable pub forest_leaf : (sk_seed : Bytes) (i : ℕ) → Run Bytes
  forest_leaf sk_seed i = do
    s ← ask w PRF (forest_secret tree pair i) sk_seed
    ask w F (forest_node tree pair 0 i) s

  -- The trees of the forest, side by side: the nodes of all are counted from the first tree's on.
  abbrev pub forest_tree : (sk_seed : Bytes) → Tree
  forest_tree sk_seed = record { leaf = forest_leaf sk_seed; place = forest_node tree pair }

  module _ (a : ℕ) where
    -- The roots of `count` trees from tree j on: algorithm 15, fors_node, at height a.
    unfoldable pub roots : (sk_seed : Bytes) (j count : ℕ) → Run Bytes
    roots sk_seed j zero = return []
    roots sk_seed j (suc count) = do
      r ← node w (forest_tree sk_seed) a j
      rs ← roots sk_seed (suc j) count
      return (r ++ rs)

    -- The key's own forest, compressed: what layer 0 seals.
    unfoldable pub own_forest : (sk_seed : Bytes) (k : ℕ) → Run Bytes
    own_forest sk_seed k = do
      rs ← roots sk_seed 0 k
      ask w T (forest_roots tree pair) rs

    -- Algorithm 16, fors_sign, for digits from tree j on: the leaf's index in tree j is j·2^a + digit.
    unfoldable pub forest_seal : (sk_seed : Bytes) (j : ℕ) (digits : List ℕ) → Run Bytes
    forest_seal sk_seed j [] = return []
    forest_seal sk_seed j (x ∷ xs) = do
      s ← ask w PRF (forest_secret tree pair (j * 2 ^ a + x)) sk_seed
      auth ← path w (forest_tree sk_seed) a 0 (j * 2 ^ a + x)
      rest ← forest_seal sk_seed (suc j) xs
      return (s ++ (auth ++ rest))

    -- Algorithm 17, fors_pkFromSig, lines 2 to 20, for digits from tree j on: the roots.
    unfoldable pub forest_walk : (j : ℕ) (digits : List ℕ) (sig : Bytes) → Run Bytes
    forest_walk j [] sig = return []
    forest_walk j (x ∷ xs) sig = do
      v ← ask w F (forest_node tree pair 0 (j * 2 ^ a + x)) (take w.n sig)
      r ← climb w (forest_node tree pair) a 0 (j * 2 ^ a + x) v (take (a * w.n) (drop w.n sig))
      rs ← forest_walk (suc j) xs (drop (tree_bytes w.n a) sig)
      return (r ++ rs)

    -- Algorithm 17, fors_pkFromSig.
    unfoldable pub forest_root : (digits : List ℕ) (sig : Bytes) → Run Bytes
    forest_root digits sig = do
      rs ← forest_walk 0 digits sig
      ask w T (forest_roots tree pair) rs
