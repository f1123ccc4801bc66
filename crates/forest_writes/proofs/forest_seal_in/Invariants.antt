-- `forest_seal_in` writes the trees' parts one after the other: what is written and what is left are the whole.
-- Assumes nothing.
use mathlib.Core.Path.{◌≡◌}
use mathlib.Core.List.{◌++◌}
use Prim.Native.Nat.{◌*◌}
use lib.ListN.{take, drop}
use Rattle.rules.specs.Forest.{forest_seal}
use Rattle.calls.specs.Hashes.{ruled_hashes}
use Rattle.forest_writes.proofs.forest_seal_in.Given as goal

abbrev pub invariant-loop-j : goal.invariant-loop-j
invariant-loop-j l =
    take (l.j * l.step) l.out
    ++ (forest_seal (ruled_hashes l.holder.hashes) l.pointed.tree l.pointed.leaf l.a l.holder.secret.now l.j
    (drop l.j l.ds)).result
    ≡ (forest_seal (ruled_hashes l.holder.hashes) l.pointed.tree l.pointed.leaf l.a l.holder.secret.now 0 l.ds).result
