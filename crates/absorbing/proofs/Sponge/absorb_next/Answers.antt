-- `absorb_next` feeds eight bytes or one, since eight go into a lane at once as they go one by one.
-- Assumes nothing.
use native.Mathlib.Omega.{arith}
use Rattle.lists.specs.Below.{Below}
use Rattle.lists.proofs.Filling.{rest_read}
use Rattle.sponge.proofs.Lanes.{byte_first, lane_first}
use Rattle.absorbing.proofs.Sponge.absorb_next.Goals as goal

pub returns-in-Some-clause-state_after : goal.returns-in-Some-clause-state_after
returns-in-Some-clause-state_after c =
    let s = c.args.self.now in
    let m = c.args.m.now in
    let b : Below 256 m = λ j. (c.type_inv.m j).fits in
    let cut = c.in-Some.ensures.cases in
    rw (c.from_le_bytes.ensures, cut.0, cut.1)
    (lane_first s.rate m b (omega (arith, cut.2)) s.lanes s.at (omega arith) (omega arith))

pub returns-clause-state_after : goal.returns-clause-state_after
returns-clause-state_after c =
    let s = c.args.self.now in
    let m = c.args.m.now in
    let b : Below 256 m = λ j. (c.type_inv.m j).fits in
    rw (c.mix.ensures, rest_read 1 m) (byte_first s.rate m b (omega arith) s.lanes s.at (omega arith))
