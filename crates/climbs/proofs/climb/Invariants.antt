-- `climb` comes to the root of the rules: what is left to climb from each height on comes to the same as the whole.
-- Assumes nothing.
use mathlib.Core.Path.{◌≡◌}
use Prim.Native.Nat.{◌-◌, ◌*◌}
use lib.ListN.{take, drop}
use Rattle.rules.specs.Trees.{climb}
use Rattle.calls.specs.Hashes.{ruled_hashes}
use Rattle.climbs.specs.Groves.{place_of}
use Rattle.climbs.proofs.climb.Given as goal

abbrev pub invariant-loop-z : goal.invariant-loop-z
invariant-loop-z l =
    (climb (ruled_hashes l.hashes) (place_of l.grove)
    (l.count - l.z) l.z l.j (take l.hashes.kit.n l.v) (drop (l.z * l.hashes.kit.n) l.auth)).result
    ≡ (climb (ruled_hashes l.hashes) (place_of l.grove) l.count 0 l.i (take l.hashes.kit.n l.initial.v) l.auth).result
