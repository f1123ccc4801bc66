-- `node` ends, since the height falls.
-- Assumes nothing.
use Rattle.trees.proofs.nodes.+node.Given as goal

abbrev pub decreases-node : goal.decreases-node
decreases-node l = l.z
