-- `path_in` writes the path of the rules: what is written and the path left from each height on are the whole path.
-- Assumes nothing.
use mathlib.Core.Path.{◌≡◌}
use mathlib.Core.List.{◌++◌}
use Prim.Native.Nat.{◌+◌, ◌-◌, ◌*◌, ◌^◌, ◌≤◌}
use lib.ListN.{take}
use Rattle.rules.specs.Trees.{path}
use Rattle.calls.specs.Hashes.{ruled_hashes}
use Rattle.climbs.specs.Groves.{tree_of}
use Rattle.trees.proofs.paths.path_in.Given as goal

abbrev pub invariant-loop-z : goal.invariant-loop-z
invariant-loop-z l =
    ((l.j + 2 ^ (l.count - l.z)) * 2 ^ l.z ≤ 2 ^ 32)
    × (take (l.z * l.n) l.out ++ (path (ruled_hashes l.holder.hashes)
    (tree_of (ruled_hashes l.holder.hashes) l.holder.secret.now l.grove)
    (l.count - l.z) l.z l.j).result
    ≡ (path (ruled_hashes l.holder.hashes) (tree_of (ruled_hashes l.holder.hashes) l.holder.secret.now l.grove) l.count
    0 l.i).result)
