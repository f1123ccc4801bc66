-- `climb` comes to the root of the rules: what is left to climb from each height on comes to the same as the whole.
-- Assumes nothing.
use mathlib.Core.Path.{◌≡◌, sym, ◌∙◌}
use Prim.Native.Nat.{◌+◌, ◌*◌}
use native.Mathlib.Omega.{arith}
use lib.ListN.{take}
use Rattle.calls.specs.Hashes.{ruled_hashes}
use Rattle.climbs.specs.Groves.{place_of}
use Rattle.climbs.proofs.ClimbLaws.{climb_turn, climb_end}
use Rattle.climbs.proofs.climb.Goals as goal

pub loop-z-preserved : goal.loop-z-preserved
loop-z-preserved c =
    let l = c.loop-z in
    let a = c.args in
    let n = a.hashes.now.kit.n in
    let next : (l.z + 1) * n ≡ l.z * n + n = omega arith in
    rw next (climb_turn (ruled_hashes a.hashes.now) (place_of a.grove) a.count l.z l.j (l.z * n)
    (take n l.v) a.auth.now c.loop-z-test.true c.up-u.ensures
    ∙ l.invariant)

pub returns : goal.returns
returns c =
    let l = c.loop-z in
    sym (climb_end _ _ _ l.z l.j _ _ c.loop-z-test.false) ∙ l.invariant
