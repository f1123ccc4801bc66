-- `layer_seal_in` writes what the chains show and the path side by side; the digits that are shown are the value's, so
-- there is one for each chain, below 16.
-- Assumes nothing.
use mathlib.Core.Path.{sym, ap, ◌∙◌}
use Prim.Native.Nat.{◌*◌}
use native.Mathlib.Omega.{arith}
use lib.ListN.{length}
use Rattle.rules.specs.Chains.{chains}
use Rattle.rules.proofs.ChecksumLaws.{chain_digits_below, length-chain_digits}
use Rattle.layer_writes.proofs.layer_seal_in.Goals as goal

pub shown_in-requires : goal.shown_in-requires
shown_in-requires c =
    let a = c.args in
    let read = c.chain_digits.ensures in
    let many = ap length read ∙ length-chain_digits _ a.m.now ∙ ap chains c.requires.1 in (
      c.split_at_mut-shown.ensures.front_len ∙ c.chain_bytes.ensures
          ∙ ap (λ x. x * a.holder.now.hashes.kit.n) (sym many),
      omega (arith, many, c.requires.0),
      rw read (chain_digits_below _ a.m.now),
    )
