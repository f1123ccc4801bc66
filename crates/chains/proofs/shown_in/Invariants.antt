-- `shown_in` writes the chains' values one after the other: what is written and what is left to show are the whole.
-- Assumes nothing.
use mathlib.Core.Path.{◌≡◌}
use mathlib.Core.List.{◌++◌}
use Prim.Native.Nat.{◌*◌}
use lib.ListN.{take, drop}
use Rattle.rules.specs.Chains.{shown}
use Rattle.calls.specs.Hashes.{ruled_hashes}
use Rattle.chains.proofs.shown_in.Given as goal

abbrev pub invariant-loop-i : goal.invariant-loop-i
invariant-loop-i l =
    take (l.i * l.n) l.out ++ (shown (ruled_hashes l.holder.hashes)
    l.spot.layer l.spot.tree l.spot.pair l.holder.secret.now l.i (drop l.i l.ds)).result
    ≡ (shown (ruled_hashes l.holder.hashes) l.spot.layer l.spot.tree l.spot.pair l.holder.secret.now 0 l.ds).result
