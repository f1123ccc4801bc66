-- `digits::digit` meets its contract: the bits cut out of the bytes that hold them are those of the whole number.
-- Assumes nothing.
use Prim.Native.Nat.{ℕ, ◌+◌, ◌/◌}
use native.Mathlib.Omega.{arith}
use Rattle.digits.proofs.Laws.{digit_read}
use Rattle.digits.proofs.digit.Goals as goal

pub returns : goal.returns
returns c =
    let n : ℕ = (c.args.skip + c.args.width + 7) / 8 in
    digit_read c.args.x.now _ c.args.width n c.to_int.result (λ i. (c.type_inv.x i).fits) (omega arith)
    (omega (arith, c.requires.2)) (omega arith) c.to_int.ensures
