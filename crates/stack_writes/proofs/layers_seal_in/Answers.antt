-- `layers_seal_in` writes the layers' parts one after the other, each for the root that the one below leads to: what is
-- written and what is left to write are the whole.
-- Assumes nothing.
use mathlib.Core.Path.{◌≡◌, ◌∙◌}
use Prim.Native.Nat.{◌+◌, ◌-◌, ◌*◌, ◌≤◌, ◌<◌}
use native.Mathlib.Nat.{mod-lt}
use native.Mathlib.Omega.{arith}
use lib.ListN.{length, take}
use Rattle.std.proofs.lemmas.Grind.{common_steps}
use Rattle.std.proofs.lemmas.Slice.{take-put_mid}
use Rattle.lists.proofs.Filling.{rest_written}
use Rattle.calls.specs.Hashes.{ruled_hashes}
use Rattle.stack_writes.proofs.StackLaws.{layers_turn, layers_end}
use Rattle.stack_writes.proofs.layers_seal_in.Goals as goal

pub loop-j-preserved : goal.loop-j-preserved
loop-j-preserved c =
    let a = c.args in
    let l = c.loop-j in
    let step = c.layer_bytes-step.result in
    let at = l.j * step in
    let up = c.layer_up_in-v in
    let ys = up.new.out in
    let room : at ≤ length l.out = search (arith, common_steps) in
    let next : (l.j + 1) * step ≡ at + length ys = search (arith, common_steps) in
    let leaves : 0 < a.size = omega (arith, l.invariant.0) in (
      mod-lt l.t leaves,
      rw (take-put_mid at _ l.out ys _ next room)
          (layers_turn (ruled_hashes a.holder.now.hashes) a.hp a.holder.now.secret.now (a.d - 1) l.j l.t l.k a.size
          (take a.holder.now.hashes.kit.n l.v) (take at l.out) ys (take a.holder.now.hashes.kit.n up.result)
          c.loop-j-test.true
          c.requires.0.leaves up.ensures.out_after up.ensures.result_value l.invariant.1),
    )

pub returns : goal.returns
returns c =
    let a = c.args in
    let l = c.loop-j in
    let top = a.d - 1 in
    let at = top * c.layer_bytes-step.result in
    let ys = c.layer_seal_in.new.out in
    let ends : l.j ≡ top = omega arith in
    rest_written at l.out ys
    ∙ layers_end (ruled_hashes a.holder.now.hashes) a.hp a.holder.now.secret.now top l.t l.k
    (take a.holder.now.hashes.kit.n l.v) (take at l.out) ys
    c.layer_seal_in.ensures (rw ends at l.invariant.1)
