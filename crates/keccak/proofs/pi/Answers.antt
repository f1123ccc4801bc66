-- `pi` is π: it only moves lanes, so both sides compute to the same 25.
-- Assumes nothing.
use mathlib.Core.Path.{refl}
use Rattle.keccak.specs.Keccak.{π, each, state, lane}
use Rattle.keccak.proofs.pi.Goals as goal

pub returns : goal.returns
unfolding π state each lane
returns c = refl
