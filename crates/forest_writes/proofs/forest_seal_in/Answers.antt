-- `forest_seal_in` writes the trees' parts one after the other: what is written and what is left are the whole.
-- Assumes nothing.
use mathlib.Core.Path.{◌≡◌}
use Prim.Native.Nat.{◌+◌, ◌*◌, ◌^◌, ◌≤◌, ◌<◌}
use native.Mathlib.Nat.{mod-eq_of_lt}
use native.Mathlib.Omega.{arith}
use lib.ListN.{length, take}
use lib.Seq.{take_all}
use Rattle.std.proofs.lemmas.Grind.{common_steps}
use Rattle.std.proofs.lemmas.Slice.{take-put_mid}
use Rattle.calls.specs.Hashes.{ruled_hashes}
use Rattle.forest_writes.proofs.ForestLaws.{forest_turn, forest_end}
use Rattle.forest_writes.proofs.forest_seal_in.Goals as goal

pub loop-j-preserved : goal.loop-j-preserved
loop-j-preserved c =
    let l = c.loop-j in
    let a = c.args in
    let step = c.tree_bytes-step.result in
    let at = l.j * step in
    let ys = c.tree_seal_in.new.out in
    let room : at ≤ length l.out = search (arith, common_steps) in
    let next : (l.j + 1) * step ≡ at + length ys = search (arith, common_steps) in
    let first : l.j * 2 ^ a.a < 2 ^ 32 = search (arith, common_steps) in
    rw (take-put_mid at _ l.out ys _ next room)
    (forest_turn (ruled_hashes a.holder.now.hashes) a.pointed.tree a.pointed.leaf a.a a.holder.now.secret.now a.ds.now
    l.j _
    (take at l.out) ys c.loop-j-test.true (mod-eq_of_lt first) c.tree_seal_in.ensures l.invariant)

pub returns : goal.returns
returns c =
    let l = c.loop-j in
    let a = c.args in
    let at = l.j * c.tree_bytes-step.result in
    let full : length l.out ≤ at = search (arith, common_steps) in
    forest_end (ruled_hashes a.holder.now.hashes) a.pointed.tree a.pointed.leaf a.a a.holder.now.secret.now a.ds.now
    l.j l.out
    c.loop-j-test.false (rw (take_all at l.out full) at l.invariant)
