-- `digits::digits` meets its contract: the digits written so far are the first of base_2b, and the next begins where
-- the loop stands.
-- Assumes nothing.
use Prim.Native.Nat.{◌<◌}
use native.Mathlib.Omega.{arith}
use lib.ListN.{length}
use Rattle.lists.proofs.Filling.{rest_read, fill_turn, fill_end}
use Rattle.rules.specs.Digits.{base2b}
use Rattle.rules.proofs.DigitLaws.{length-base2b}
use Rattle.digits.proofs.Laws.{place_turn, place_digit}
use Rattle.digits.proofs.digits.Goals as goal

pub loop-d-preserved : goal.loop-d-preserved
loop-d-preserved c =
    let l = c.loop-d in
    let x = c.args.x.now in
    let w = c.args.width in
    let n = length c.args.out.now in
    let h : l.d-index < n = c.loop-d-test.true in
    let v = place_digit w l.d-index l.at l.skip l.invariant.1 x n c.requires.1 h _ c.digit.result
    (rest_read l.at x) c.digit.ensures in (
      omega arith,
      place_turn w l.d-index l.at l.skip l.invariant.1,
      fill_turn 0 l.out (base2b x w n) l.d-index _ (omega arith) (rw (length-base2b x w n) h) v l.invariant.2,
    )

pub returns : goal.returns
returns c =
    let l = c.loop-d in
    let x = c.args.x.now in
    let w = c.args.width in
    let n = length c.args.out.now in
    fill_end l.out (base2b x w n) l.d-index (omega arith) (rw (length-base2b x w n) c.loop-d-test.false) l.invariant.2
