-- `seal_over` writes the randomizer and, for the place where the message points with it, the rest: such a place is in
-- the key.
-- Assumes nothing.
use Rattle.rows.specs.Rows.{ruled_row}
use Rattle.points.proofs.PointLaws.{in_key}
use Rattle.seal_writes.proofs.seal_over.Goals as goal

pub written_in-requires-clause-aim_fits : goal.written_in-requires-clause-aim_fits
written_in-requires-clause-aim_fits c =
    let q = in_key (ruled_row c.args.set.row) c.args.set.ready.legal _ c.randomized_aim-pointed.ensures.aimed in
    (q.indices_long, q.indices_below, q.leaf_lt)
