-- `written_in` writes the forest's part, and the layers' parts for the value that it leads to: a row's sizes leave them
-- their room.
-- Assumes nothing.
use native.Mathlib.Omega.{arith}
use Rattle.rows.specs.Rows.{ruled_row}
use Rattle.rows.proofs.SizeLaws.{seal_size}
use Rattle.writes.proofs.written_in.Goals as goal

pub layers_in-requires : goal.layers_in-requires
layers_in-requires c =
    let size = seal_size (ruled_row c.args.set.row) c.args.set.ready in
    let back = c.split_at_mut-forest.ensures.back_len in
    (omega (arith, size, back, c.forest_bytes.ensures), c.requires.aim_fits.2)
