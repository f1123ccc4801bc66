-- `walk_in` takes each chain to its end: what is done and what is left to walk are the whole, and so are the calls.
-- Assumes nothing.
use mathlib.Core.Path.{◌≡◌}
use mathlib.Core.List.{◌++◌}
use Prim.Native.Nat.{◌+◌, ◌*◌}
use lib.ListN.{take, drop}
use Rattle.rules.specs.Chains.{steps, walk}
use Rattle.calls.specs.Hashes.{ruled_hashes}
use Rattle.leaf_walks.proofs.walk_in.Given as goal

abbrev pub invariant-loop-i : goal.invariant-loop-i
invariant-loop-i l = record {
  walked : take (l.i * l.n) l.io ++ (walk (ruled_hashes l.hashes) l.spot.layer l.spot.tree l.spot.pair l.i
      (drop l.i l.ds) (drop (l.i * l.n) l.io)).result
      ≡ (walk (ruled_hashes l.hashes) l.spot.layer l.spot.tree l.spot.pair 0 l.ds l.initial.io).result;
  counted : l.calls + steps (drop l.i l.ds) ≡ steps l.ds;
}
