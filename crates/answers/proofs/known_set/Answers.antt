-- The row that `known_set` found is the row of its number, and so it is ready.
-- Assumes nothing.
use mathlib.Core.Path.{◌≡◌}
use mathlib.Core.Option.{some}
use Rattle.std.proofs.Common.{rules}
use Rattle.rules.specs.Sets.{row_of}
use Rattle.rows.specs.Rows.{ruled_row}
use Rattle.rows.proofs.ReadyLaws.{row_of_ready}
use Rattle.answers.proofs.known_set.Goals as goal

pub invariant_of-result : goal.invariant_of-result
invariant_of-result c =
    let row = ruled_row c.in_ok-row.row in
    let found : row_of c.args.number ≡ some row = search rules in
    record { ready = row_of_ready c.args.number row found }
