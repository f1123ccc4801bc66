-- `roots_in` writes the trees' roots one after the other: what is written and what is left to walk are the whole, and
-- the calls are as many as the trees walked.
-- Assumes nothing.
use mathlib.Core.Path.{◌≡◌}
use mathlib.Core.List.{◌++◌}
use Prim.Native.Nat.{◌*◌}
use lib.ListN.{take, drop}
use Rattle.rules.specs.Forest.{forest_walk}
use Rattle.calls.specs.Hashes.{ruled_hashes}
use Rattle.tree_walks.proofs.roots_in.Given as goal

abbrev pub invariant-loop-j : goal.invariant-loop-j
invariant-loop-j l = record {
  walked : take (l.j * l.n) l.out ++ (forest_walk (ruled_hashes l.hashes) l.pointed.tree l.pointed.leaf l.a l.j
      (drop l.j l.ds) (drop (l.j * l.step) l.sig)).result
      ≡ (forest_walk (ruled_hashes l.hashes) l.pointed.tree l.pointed.leaf l.a 0 l.ds l.sig).result;
  counted : l.calls ≡ l.j;
}
