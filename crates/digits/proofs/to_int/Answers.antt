-- `digits::to_int` meets its contract: the total is the number of the bytes read so far.
-- Assumes nothing.
use mathlib.Core.Path.{refl, ap, ◌∙◌}
use lib.Seq.{take_all}
use Rattle.rules.specs.Digits.{value, to_int}
use Rattle.digits.proofs.to_int.Goals as goal

pub loop-b-init : goal.loop-b-init
unfolding value
loop-b-init c = refl

pub returns : goal.returns
returns c = c.loop-b.invariant ∙ ap to_int (take_all _ _ c.loop-b-test.false)
