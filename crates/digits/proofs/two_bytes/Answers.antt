-- `digits::two_bytes` meets its contract: the two bytes are the last two digits of width eight.
-- Assumes nothing.
use native.Mathlib.Nat.{div-one}
use Rattle.rules.specs.Digits.{digits}
use Rattle.digits.proofs.two_bytes.Goals as goal

pub returns : goal.returns
unfolding digits
returns c = rw (c.to_be_bytes.ensures, div-one c.args.v)
