-- `key_root` is the topmost tree's node at its full height.
-- Assumes nothing.
use native.Mathlib.Omega.{arith}
use Rattle.rows.specs.Rows.{ruled_row}
use Rattle.rows.proofs.SizeLaws.{layer_leaves}
use Rattle.keys.proofs.KeyLaws.{root_made}
use Rattle.keys.proofs.key_root.Goals as goal

pub node-requires : goal.node-requires
node-requires c =
    rw c.kit_of-kit.ensures (
      c.args.set.ready.fit.values,
      omega
          (arith, layer_leaves (ruled_row c.args.set.row) c.args.set.ready),
    )

pub returns : goal.returns
returns c =
    let a = c.args in
    root_made a.set.row a.sk.now a.pk.now c.node.result c.kit_of-kit.ensures c.node.ensures
