-- `t` is T, by `call_value`.
-- Assumes nothing.
use Rattle.calls.specs.Hashes.{family}
use Rattle.calls.proofs.Hashes.t.Goals as goal

pub returns : goal.returns
unfolding family
returns c = c.call_value.ensures
