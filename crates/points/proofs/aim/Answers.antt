-- `aim` reads where the digest of the framed message points.
-- Assumes nothing.
use Rattle.message_calls.specs.Framed.{joined}
use Rattle.rows.specs.Rows.{ruled_row}
use Rattle.calls.specs.Hashes.{family_for}
use Rattle.points.proofs.PointLaws.{aimed}
use Rattle.points.proofs.aim.Goals as goal

pub returns : goal.returns
returns c =
    let a = c.args in
    let r = ruled_row a.set.row in
    aimed r (family_for r) a.r.now a.seed.now a.root.now
    (joined a.framed.now) (rw c.kit_of-kit.ensures at c.digest_in.ensures)
    c.point.ensures
