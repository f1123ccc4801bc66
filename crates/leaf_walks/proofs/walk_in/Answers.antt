-- `walk_in` takes each chain to its end: what is done and what is left to walk are the whole, and so are the calls.
-- Assumes nothing.
use mathlib.Core.Path.{◌≡◌, ◌∙◌}
use Prim.Native.Nat.{◌+◌, ◌-◌, ◌*◌, ◌≤◌}
use native.Mathlib.Omega.{arith}
use lib.ListN.{length, take, drop}
use lib.Seq.{take_all}
use Rattle.lists.proofs.Parts.{piece_room}
use Rattle.lists.proofs.Filling.{part_written, part_rest, lent_length, lent_split}
use Rattle.rules.proofs.ChecksumLaws.{steps_le}
use Rattle.calls.specs.Hashes.{ruled_hashes}
use Rattle.leaf_walks.proofs.Loops.{walk_turn, walk_end, walk_calls, steps_turn, steps_end}
use Rattle.leaf_walks.proofs.walk_in.Goals as goal

-- All calls are as many as all digits leave steps, which fit a word.
pub overflow_add-calls : goal.overflow_add-calls
overflow_add-calls c =
    let ds = c.args.ds.now in
    let turn = steps_turn _ _ _ _ ds c.loop-i.i _ c.loop-i-test.true c.chain_in-calls.ensures.f_calls in
    omega (arith, turn, steps_le ds, c.requires.1)

pub loop-i-preserved : goal.loop-i-preserved
loop-i-preserved c =
    let l = c.loop-i in
    let a = c.args in
    let n = a.hashes.now.kit.n in
    let at = l.i * n in
    let ys = c.chain_in-calls.new.io in
    let turn = steps_turn _ _ _ _ a.ds.now l.i _ c.loop-i-test.true c.chain_in-calls.ensures.f_calls in
    let room : at + n ≤ length l.io = omega (arith, piece_room l.i (length a.ds.now) n c.loop-i-test.true) in
    let next : (l.i + 1) * n ≡ at + n = omega arith in
    let lent = lent_length at n l.io room in
    let long = c.chain_in-calls.auto.io ∙ lent in
    record {
      walked = rw (next, part_written at n l.io ys room long, part_rest at n l.io ys room long)
          (walk_turn (ruled_hashes a.hashes.now) a.spot.layer a.spot.tree a.spot.pair a.ds.now
          l.i (take at l.io) (take (at + n - at) (drop at l.io)) ys (drop (at + n) l.io)
          c.loop-i-test.true lent c.chain_in-calls.ensures.io_after
          (rw (lent_split at n l.io) at l.invariant.walked));
      counted = omega (arith, turn);
    }

pub returns : goal.returns
returns c =
    let l = c.loop-i in
    let a = c.args in
    let w = ruled_hashes a.hashes.now in
    let full : length l.io ≤ l.i * a.hashes.now.kit.n = grind arith in
    record {
      io_after = walk_end w a.spot.layer a.spot.tree a.spot.pair a.ds.now l.i l.io
          (drop (l.i * a.hashes.now.kit.n) l.io)
          c.loop-i-test.false (rw (take_all (l.i * a.hashes.now.kit.n) l.io full) at l.invariant.walked);
      f_calls = (omega (arith, steps_end a.ds.now l.i c.loop-i-test.false))
          ∙ walk_calls w a.spot.layer a.spot.tree a.spot.pair a.ds.now a.io.now;
    }
