-- `path_in` writes the path of the rules: what is written and the path left from each height on are the whole path.
-- Assumes nothing.
use mathlib.Core.Path.{◌≡◌, ◌∙◌}
use Prim.Native.Nat.{◌+◌, ◌*◌, ◌≤◌}
use native.Mathlib.Omega.{arith}
use lib.ListN.{length, take}
use lib.Seq.{take_all}
use Rattle.std.proofs.lemmas.Grind.{common_steps}
use Rattle.std.proofs.lemmas.Slice.{take-put_mid}
use Rattle.calls.specs.Hashes.{ruled_hashes}
use Rattle.climbs.specs.Groves.{tree_of}
use Rattle.trees.proofs.PathLaws.{path_turn, path_end, room_turn}
use Rattle.trees.proofs.paths.path_in.Goals as goal

pub node-v-requires : goal.node-v-requires
node-v-requires c =
    let l = c.loop-z in
    (c.requires.0, rw c.sibling.ensures (room_turn c.args.count l.z l.j c.loop-z-test.true l.invariant.0).0)

pub loop-z-preserved : goal.loop-z-preserved
loop-z-preserved c =
    let l = c.loop-z in
    let a = c.args in
    let w = ruled_hashes a.holder.now.hashes in
    let at = l.z * a.holder.now.hashes.kit.n in
    let ys = c.copy_from_slice.new.self in
    let room : at ≤ length l.out = search (arith, common_steps) in
    let next : (l.z + 1) * a.holder.now.hashes.kit.n ≡ at + length ys = search (arith, common_steps) in (
      (room_turn a.count l.z l.j c.loop-z-test.true l.invariant.0).1,
      rw (take-put_mid at _ l.out ys _ next room)
          (path_turn w (tree_of w a.holder.now.secret.now a.grove) a.count l.z l.j (take at l.out)
          c.loop-z-test.true c.sibling.ensures (c.copy_from_slice.ensures.after ∙ c.node-v.ensures) l.invariant.1),
    )

pub returns : goal.returns
returns c =
    let l = c.loop-z in
    let a = c.args in
    let w = ruled_hashes a.holder.now.hashes in
    let at = l.z * a.holder.now.hashes.kit.n in
    let full : length l.out ≤ at = search (arith, common_steps) in
    path_end w (tree_of w a.holder.now.secret.now a.grove) a.count l.z l.j l.out c.loop-z-test.false
    (rw (take_all at l.out full) at l.invariant.1)
