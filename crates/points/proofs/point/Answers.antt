-- `point` reads the forest's digits, the tree and the leaf from the three pieces of a digest.
-- Assumes nothing.
use Rattle.rows.specs.Rows.{ruled_row}
use Rattle.points.proofs.PointLaws.{pointed_at}
use Rattle.points.proofs.point.Goals as goal

pub returns : goal.returns
returns c =
    let one = c.split_at.ensures in
    let two = c.split_at-2.ensures in
    pointed_at (ruled_row c.args.set.row) c.args.digest.now c.args.set.ready.legal c.requires.0 c.div_ceil.result
    c.div_ceil-2.result c.div_ceil.ensures c.div_ceil-2.ensures _ one.front one.back two.front two.back c.requires.1
    c.digits.ensures c.last_bits-tree.ensures c.last_bits-leaf.ensures
