-- `up` is H of a node and its sibling at their parent's place: each parity of the index has its order.
-- Assumes nothing.
use Prim.Native.Nat.{◌%◌}
use lib.ListN.{take}
use Rattle.rules.specs.Calls.{H}
use Rattle.calls.specs.Hashes.{ruled_hashes}
use Rattle.climbs.proofs.ClimbLaws.{joined_even, joined_odd, called}
use Rattle.climbs.proofs.up.Goals as goal

pub returns-then-i-eq0 : goal.returns-then-i-eq0
returns-then-i-eq0 c =
    let a = c.args in
    called ((ruled_hashes a.hashes.now).hash H) c.node_address-adrs.ensures
    (joined_even (a.i % 2) (take a.hashes.now.kit.n a.v) a.sibling.now c.if-i-eq0.true) c.h.ensures

pub returns-else-i-eq0 : goal.returns-else-i-eq0
returns-else-i-eq0 c =
    let a = c.args in
    called ((ruled_hashes a.hashes.now).hash H) c.node_address-adrs.ensures
    (joined_odd (a.i % 2) (take a.hashes.now.kit.n a.v) a.sibling.now c.if-i-eq0.false) c.h-else-i-eq0.ensures
