-- `squeeze` draws its bytes: after each turn the bytes out are those drawn, and the sponge is past them.
-- Assumes nothing.
use mathlib.Core.Path.{◌≡◌}
use Prim.Native.Nat.{◌-◌, ◌≤◌}
use lib.ListN.{length, take}
use Rattle.sponge.specs.Stream.{sponge, draw, drawn}
use Rattle.squeezing.proofs.squeeze.Given as goal

abbrev pub invariant-loop-i : goal.invariant-loop-i
invariant-loop-i l =
    let r = l.initial.s.rate in
    let k = sponge l.initial.s.lanes l.initial.s.at in
    (l.i ≤ length l.out) × (l.s.rate ≡ r) × (sponge l.s.lanes l.s.at ≡ drawn r l.i k) × (take l.i l.out ≡ draw r l.i k)

abbrev pub decreases-loop-i : goal.decreases-loop-i
decreases-loop-i l = length l.out - l.i
