-- `mix` adds a byte to a lane at its place, since shifting it loses nothing.
-- Assumes nothing.
use Prim.Native.Nat.{◌*◌, ◌%◌}
use native.Mathlib.Omega.{arith}
use Rattle.sponge.specs.Stream.{mixed}
use Rattle.sponge.proofs.Lanes.{shifted}
use Rattle.absorbing.proofs.mix.Goals as goal

pub returns : goal.returns
unfolding mixed
returns c = rw (c.from.ensures, shifted c.args.b (8 * (c.args.at % 8)) (omega arith) (omega arith))
