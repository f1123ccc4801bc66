-- `rotate` is a rotation: a left shift joined with a right shift, and at 0 both are the lane itself.
-- Assumes nothing.
use Rattle.keccak.proofs.Rounds.{shift_pair}
use Rattle.keccak.proofs.rotate.Goals as goal

pub returns : goal.returns
returns c = shift_pair c.args.n c.args.a c.requires c.ranges.a.fits
