-- `randomizer_of_in` hashes the mixed-in bytes and the framed message.
-- Assumes nothing.
use Rattle.message_calls.specs.Framed.{joined}
use Rattle.rules.specs.Seal.{mixed_in}
use Rattle.rows.specs.Rows.{ruled_row}
use Rattle.calls.specs.Hashes.{family_for}
use Rattle.randomizers.proofs.RandomizerLaws.{randomizer_made}
use Rattle.randomizers.proofs.randomizer_of_in.Goals as goal

pub returns : goal.returns
returns c =
    let a = c.args in
    let r = ruled_row a.set.row in
    randomizer_made r (family_for r) a.prf.now (mixed_in a.random.now a.seed.now)
    (joined a.framed.now) c.mixed_in-mixed.ensures.bytes
    (rw c.kit_of-kit.ensures at c.randomizer_in.ensures)
