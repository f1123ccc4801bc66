-- `digits::to_int` meets its contract: the total is the number of the bytes read so far.
-- Assumes nothing.
use mathlib.Core.Path.{◌≡◌}
use lib.ListN.{take}
use Rattle.rules.specs.Digits.{to_int}
use Rattle.digits.proofs.to_int.Given as goal

abbrev pub invariant-loop-b : goal.invariant-loop-b
invariant-loop-b l = l.total ≡ to_int (take l.b-index l.x)
