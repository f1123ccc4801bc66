-- `layers_seal_in` writes the layers' parts one after the other, each for the root that the one below leads to: what is
-- written and what is left to write are the whole.
-- Assumes nothing.
use mathlib.Core.Path.{◌≡◌}
use mathlib.Core.List.{◌++◌}
use Prim.Native.Nat.{◌-◌, ◌*◌, ◌<◌}
use lib.ListN.{take}
use Rattle.rules.specs.Layers.{layers_seal}
use Rattle.calls.specs.Hashes.{ruled_hashes}
use Rattle.stack_writes.proofs.layers_seal_in.Given as goal

abbrev pub invariant-loop-j : goal.invariant-loop-j
invariant-loop-j l =
    (l.k < l.size)
    × (take (l.j * l.step) l.out ++ (layers_seal (ruled_hashes l.holder.hashes) l.hp l.holder.secret.now (l.top - l.j)
    l.j l.t l.k
    (take l.n l.v)).result
    ≡ (layers_seal (ruled_hashes l.holder.hashes) l.hp l.holder.secret.now l.top 0 l.fn.pointed.tree l.fn.pointed.leaf
    (take l.n l.initial.v)).result)
