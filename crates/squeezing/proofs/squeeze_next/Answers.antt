-- `squeeze_next` draws eight bytes or one, since eight come out of a lane at once as they come one by one.
-- Assumes nothing.
use mathlib.Core.Path.{sym, ap, ◌∙◌}
use Prim.Native.Nat.{◌/◌}
use native.Mathlib.Omega.{arith}
use lib.ListN.{length, drop, get_or}
use lib.Seq.{take_at, take-suc-set}
use Rattle.sponge.specs.Stream.{byte_of}
use Rattle.sponge.proofs.Lanes.{lane_out, byte_out, le_digits}
use Rattle.sponge.proofs.Stream.{drawn_in}
use Rattle.squeezing.proofs.squeeze_next.Goals as goal

pub returns-then-out-ge8-clause-state_after : goal.returns-then-out-ge8-clause-state_after
returns-then-out-ge8-clause-state_after c =
    let s = c.args.s.now in
    sym (drawn_in s.rate 8 s.lanes s.at (omega arith))

pub returns-then-out-ge8-clause-out_after : goal.returns-then-out-ge8-clause-out_after
returns-then-out-ge8-clause-out_after c =
    let s = c.args.s.now in
    let e = c.copy_from_slice.ensures.after ∙ c.to_le_bytes.ensures in
    take_at c.copy_from_slice.new.self (drop 8 c.args.out.now) 8 (ap length e) ∙ e
    ∙ le_digits (get_or s.lanes (s.at / 8) 0)
    ∙ sym (lane_out s.rate s.lanes s.at (omega arith) (omega arith))

pub returns-clause-state_after : goal.returns-clause-state_after
returns-clause-state_after c =
    let s = c.args.s.now in
    sym (drawn_in s.rate 1 s.lanes s.at (omega arith))

pub returns-clause-out_after : goal.returns-clause-out_after
unfolding byte_of
returns-clause-out_after c =
    let s = c.args.s.now in
    take-suc-set c.args.out.now 0 _ (omega arith) ∙ sym (byte_out s.rate s.lanes s.at (omega arith))
