-- `digest` is SHAKE256: one piece absorbed, finished and squeezed is that by the law `shaken`.
-- Assumes nothing.
use Rattle.shake.proofs.Laws.{shaken}
use Rattle.shake.proofs.digest.Goals as goal

pub returns : goal.returns
returns c = rw shaken (cc)
