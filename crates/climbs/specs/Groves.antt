-- The hash tree that a grove of the code stands for in the rules.
-- Assumes nothing.
use Rattle.std.specs.Prelude.{ℕ}
use Rattle.rules.specs.Places.{Bytes, Place, tree_node, forest_node}
use Rattle.rules.specs.Calls.{Hashes}
use Rattle.rules.specs.Trees.{Tree}
use Rattle.rules.specs.Layers.{layer_tree}
use Rattle.rules.specs.Forest.{forest_tree}
use Rattle.climbs.specs.declared.groves.Grove.{Grove}
use Rattle.climbs.specs.declared.groves.Grove.TheVariants.{Layer, Forest}

-- The place of the node at a height and an index.
abbrev pub place_of : Grove → (height index : ℕ) → Place
place_of (Layer l t) = tree_node l t
place_of (Forest t p) = forest_node t p

-- The tree, with the leaves that the secret seed gives.
abbrev pub tree_of : (w : Hashes) (sk : Bytes) → Grove → Tree
tree_of w sk (Layer l t) = layer_tree w sk l t
tree_of w sk (Forest t p) = forest_tree w t p sk
