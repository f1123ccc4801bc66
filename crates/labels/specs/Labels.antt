-- The places of a key, each with the function that is called there and its input.
-- Assumes nothing.
use Rattle.std.specs.Prelude.{Bool, ◌&&◌, ◌≡◌, [], ◌++◌, ℕ, zero, suc, ◌+◌, ◌-◌, ◌*◌, ◌^◌, ◌≤◌, ◌<◌, leb, ltb}
use Rattle.rules.specs.Places.{Bytes, Place, chain_step, chain_ends, tree_node, forest_node, forest_roots, chain_secret}
use Rattle.rules.specs.Places.{forest_secret, address}
use Rattle.rules.specs.Calls.{Function, F, H, T, PRF, Call, call_of, Hashes}
use Rattle.rules.specs.Chains.{chains, ends, own_chain}
use Rattle.rules.specs.Trees.{Tree, node}
use Rattle.rules.specs.Layers.{layer_tree}
use Rattle.rules.specs.Forest.{forest_tree, roots}
use Rattle.rules.specs.Sets.{Row}

-- ---- Which places a key has

-- A tree of a layer: the topmost layer has one, and each layer 2^h' times as many as the one above it.
pub record LegalTree (r : Row) (layer tree : ℕ) : Type 0 where
  pub layer_lt : layer < r.d
  pub tree_lt : tree < 2 ^ (r.h' * (r.d - suc layer))

-- A leaf of a tree of a layer: a key pair of section 5.
pub record LegalLeaf (r : Row) (layer tree pair : ℕ) : Type 0 where
  pub of_tree : LegalTree r layer tree
  pub pair_lt : pair < 2 ^ r.h'

-- A forest: one for each leaf of layer 0.
pub record LegalForest (r : Row) (tree pair : ℕ) : Type 0 where
  pub tree_lt : tree < 2 ^ (r.h - r.h')
  pub pair_lt : pair < 2 ^ r.h'

-- The places of a row's keys, with the words of figures 3 to 9. A chain has 15 steps. Height 0 of a layer's tree is a
-- leaf, whose place is that of its chains' ends. The forest's nodes at a height are those of k trees, counted through.
abbrev pub LegalPlace : Row → Place → Type 0
LegalPlace r (chain_step l t p c s) = LegalLeaf r l t p × (c < chains r.n) × (s < 15)
LegalPlace r (chain_ends l t p) = LegalLeaf r l t p
LegalPlace r (tree_node l t z i) = LegalTree r l t × (0 < z) × (z ≤ r.h') × (i < 2 ^ (r.h' - z))
LegalPlace r (forest_node t p z i) = LegalForest r t p × (z ≤ r.a) × (i < r.k * 2 ^ (r.a - z))
LegalPlace r (forest_roots t p) = LegalForest r t p
LegalPlace r (chain_secret l t p c) = LegalLeaf r l t p × (c < chains r.n)
LegalPlace r (forest_secret t p i) = LegalForest r t p × (i < r.k * 2 ^ r.a)

-- The words of an address hold all of them: the tree has 12 bytes, each other word 4 (figure 2).
pub record InWords (r : Row) : Type 0 where
  pub layers : r.d ≤ 2 ^ 32
  pub trees : r.h - r.h' ≤ 96
  pub pairs : r.h' ≤ 32
  pub heights : r.a < 2 ^ 32
  pub indices : r.k * 2 ^ r.a ≤ 2 ^ 32

-- The test of a row: each line of `InWords`.
unfoldable pub in_words : Row → Bool
in_words r =
    leb r.d (2 ^ 32)
    && (leb (r.h - r.h') 96
    && (leb r.h' 32
    && (ltb r.a (2 ^ 32)
    && leb (r.k * 2 ^ r.a) (2 ^ 32))))

-- ---- What is called at a place

-- The function: F on a chain and at a forest's leaf, T over ends and roots, H at a node, PRF for a secret value.
abbrev pub function_at : Place → Function
function_at (chain_step l t p c s) = F
function_at (chain_ends l t p) = T
function_at (tree_node l t z i) = H
function_at (forest_node t p zero i) = F
function_at (forest_node t p (suc z) i) = H
function_at (forest_roots t p) = T
function_at (chain_secret l t p c) = PRF
function_at (forest_secret t p i) = PRF

module _ (w : Hashes) (a k : ℕ) (sk_seed : Bytes) where
  -- The two nodes at height z that stand below index i, joined.
  abbrev children_of : Tree → (z i : ℕ) → Bytes
  children_of tree z i = (node w tree z (2 * i)).result ++ (node w tree z (2 * i + 1)).result

  -- The key's own input: a chain's value, the ends or the roots joined, two children joined, a secret value, the secret
  -- seed. At height 0 of a layer's tree nothing is called.
  unfoldable pub input_at : Place → Bytes
  input_at (chain_step l t p c s) = own_chain w l t p sk_seed c s
  input_at (chain_ends l t p) = (ends w l t p sk_seed 0 (chains w.n)).result
  input_at (tree_node l t zero i) = []
  input_at (tree_node l t (suc z) i) = children_of (layer_tree w sk_seed l t) z i
  input_at (forest_node t p zero i) = w.hash PRF (address (forest_secret t p i)) sk_seed
  input_at (forest_node t p (suc z) i) = children_of (forest_tree w t p sk_seed) z i
  input_at (forest_roots t p) = (roots w t p a sk_seed 0 k).result
  input_at (chain_secret l t p c) = sk_seed
  input_at (forest_secret t p i) = sk_seed

  -- The key's own call at a place.
  abbrev pub own_at : Place → Call
  own_at p = call_of (function_at p) p (input_at p)

-- A call is the key's own call at a legal place.
pub record Placed (r : Row) (w : Hashes) (sk_seed : Bytes) (c : Call) : Type 0 where
  pub place : Place
  pub place_legal : LegalPlace r place
  pub is_call : c ≡ own_at w r.a r.k sk_seed place
