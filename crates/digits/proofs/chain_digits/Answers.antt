-- `digits::chain_digits` meets its contract: the first call writes the own digits over the front, and the second the
-- digits of their checksum over the rest.
-- Assumes nothing.
use native.Mathlib.Omega.{arith}
use Rattle.digits.proofs.Laws.{own_sum_lt, all_written}
use Rattle.digits.proofs.chain_digits.Goals as goal

pub overflow_mul-steps_left : goal.overflow_mul-steps_left
overflow_mul-steps_left c =
    let s = c.split_at_mut-own.ensures in
    omega (
      arith,
      own_sum_lt c.args.x.now c.digits.new.out _ c.steps_left.result (omega (arith, s.front_len))
          c.digits.ensures c.steps_left.ensures c.requires.0,
    )

pub returns : goal.returns
returns c =
    let s = c.split_at_mut-own.ensures in
    all_written c.args.x.now c.digits.new.out _ c.steps_left.result (omega (arith, s.front_len)) c.digits.ensures
    c.steps_left.ensures c.two_bytes-sum.result c.digits-2.new.out _
    (omega (arith, s.front_len, s.back_len, c.requires.1)) c.two_bytes-sum.ensures c.digits-2.ensures
