-- `absorb` feeds its bytes: after each turn what is left, fed to the sponge as it is, gives what all of them give.
-- Assumes nothing.
use mathlib.Core.Path.{◌≡◌}
use lib.ListN.{length}
use Rattle.sponge.specs.Stream.{sponge, feed}
use Rattle.absorbing.proofs.Sponge.absorb.Given as goal

abbrev pub invariant-loop-rest : goal.invariant-loop-rest
invariant-loop-rest l =
    (l.self.rate ≡ l.initial.self.rate)
    × (feed l.self.rate (sponge l.self.lanes l.self.at) l.rest
    ≡ feed l.initial.self.rate (sponge l.initial.self.lanes l.initial.self.at) l.m)

abbrev pub decreases-loop-rest : goal.decreases-loop-rest
decreases-loop-rest l = length l.rest
