-- `parity` is the parity of a column: its five places are the definition's, since x below 5 is its own remainder.
-- Assumes nothing.
use mathlib.Core.Path.{◌≡◌}
use Prim.Native.Nat.{◌%◌}
use native.Mathlib.Omega.{arith}
use native.Mathlib.Nat.{zero-add}
use Rattle.keccak.specs.Keccak.{C, lane}
use Rattle.keccak.proofs.parity.Goals as goal

pub returns : goal.returns
unfolding C lane
returns c =
    let x = c.args.x in
    let e : x % 5 ≡ x = omega arith in
    rw (e, zero-add)
