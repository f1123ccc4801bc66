-- `chain_in` takes the chain's steps one by one: what is left from where it is leads to where the whole leads.
-- Assumes nothing.
use mathlib.Core.Path.{◌≡◌}
use Prim.Native.Nat.{◌+◌, ◌-◌}
use Rattle.rules.specs.Places.{chain_step}
use Rattle.rules.specs.Chains.{chain}
use Rattle.calls.specs.Hashes.{ruled_hashes}
use Rattle.chains.proofs.chain_in.Given as goal

abbrev pub invariant-loop-k : goal.invariant-loop-k
invariant-loop-k l =
    (chain (ruled_hashes l.hashes) (chain_step l.layer l.tree l.pair l.c)
    l.io (l.start + l.k) (l.steps - l.k)).result
    ≡ (chain (ruled_hashes l.hashes) (chain_step l.layer l.tree l.pair l.c)
    l.initial.io l.start l.steps).result
