-- `shown_in` writes the chains' values one after the other: what is written and what is left to show are the whole.
-- Assumes nothing.
use mathlib.Core.Path.{◌≡◌, ◌∙◌}
use Prim.Native.Nat.{◌+◌, ◌*◌, ◌≤◌}
use native.Mathlib.Omega.{arith}
use lib.ListN.{length, take}
use lib.Seq.{take_all}
use Rattle.lists.proofs.Parts.{piece_room}
use Rattle.lists.proofs.Filling.{part_written, lent_length}
use Rattle.calls.specs.Hashes.{ruled_hashes}
use Rattle.chains.proofs.Loops.{shown_turn, shown_end}
use Rattle.chains.proofs.shown_in.Goals as goal

pub loop-i-preserved : goal.loop-i-preserved
loop-i-preserved c =
    let l = c.loop-i in
    let a = c.args in
    let n = a.holder.now.hashes.kit.n in
    let ys = c.own_chain.new.out in
    let room : l.i * n + n ≤ length l.out = omega (arith, piece_room l.i (length a.ds.now) n c.loop-i-test.true) in
    let next : (l.i + 1) * n ≡ l.i * n + n = omega arith in
    rw (next, part_written (l.i * n) n l.out ys room (c.own_chain.auto.out ∙ lent_length (l.i * n) n l.out room))
    (shown_turn (ruled_hashes a.holder.now.hashes) a.spot.layer a.spot.tree a.spot.pair a.holder.now.secret.now
    a.ds.now l.i (take (l.i * n) l.out) ys c.loop-i-test.true c.own_chain.ensures l.invariant)

pub returns : goal.returns
returns c =
    let l = c.loop-i in
    let a = c.args in
    let full : length l.out ≤ l.i * a.holder.now.hashes.kit.n = grind arith in
    shown_end (ruled_hashes a.holder.now.hashes) a.spot.layer a.spot.tree a.spot.pair a.holder.now.secret.now
    a.ds.now l.i l.out c.loop-i-test.false (rw (take_all (l.i * a.holder.now.hashes.kit.n) l.out full) at l.invariant)
