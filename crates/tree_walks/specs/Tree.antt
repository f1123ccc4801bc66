-- What a tree of the forest leads to, as a run of the rules.
-- Assumes nothing.
use Rattle.std.specs.Prelude.{ℕ, take, drop}
use Rattle.rules.specs.Places.{Bytes, forest_node}
use Rattle.rules.specs.Calls.{F, Hashes, Run, ◌>>=◌, ask}
use Rattle.rules.specs.Trees.{climb}

-- F of the secret value at leaf i of all trees, and the climb from there along the path that follows it.
abbrev pub tree_run : (w : Hashes) (tree pair a i : ℕ) (part : Bytes) → Run Bytes
tree_run w tree pair a i part =
    ask w F (forest_node tree pair 0 i) (take w.n part)
    >>= λ v. climb w (forest_node tree pair) a 0 i v (drop w.n part)
