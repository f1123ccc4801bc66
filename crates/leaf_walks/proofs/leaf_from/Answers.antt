-- `leaf_from` reads the digits, walks from the shown values and compresses the ends.
-- Assumes nothing.
use mathlib.Core.Path.{sym, ap, ◌∙◌}
use Prim.Native.Nat.{◌*◌}
use native.Mathlib.Omega.{arith}
use lib.ListN.{length}
use borrow.Author.Rules.{rules}
use Rattle.rules.specs.Chains.{chain_digits}
use Rattle.rules.proofs.ChecksumLaws.{chain_digits_below, length-chain_digits}
use Rattle.calls.specs.Hashes.{ruled_hashes}
use Rattle.leaf_walks.proofs.Loops.{from_made, from_calls}
use Rattle.leaf_walks.proofs.leaf_from.Goals as goal

pub walk_in-calls-requires : goal.walk_in-calls-requires
walk_in-calls-requires c =
    let n = c.args.hashes.now.kit.n in
    let ds = c.chain_digits.ensures ∙ ap (λ k. chain_digits k c.args.m.now) c.requires.value_long in
    let many = ap length ds ∙ length-chain_digits n c.args.m.now in (
      ap length c.copy_from_slice.ensures.after ∙ c.requires.sig_long ∙ ap (λ x. x * n) (sym many),
      omega (arith, many, c.requires.small),
      rw ds (chain_digits_below n c.args.m.now),
    )

pub returns : goal.returns
returns c =
    let a = c.args in
    let w = ruled_hashes a.hashes.now in
    let ds = c.chain_digits.ensures ∙ ap (λ k. chain_digits k a.m.now) c.requires.value_long in
    record {
      value_is = from_made w a.spot.layer a.spot.tree a.spot.pair a.sig.now a.m.now ds c.copy_from_slice.ensures.after
          c.walk_in-calls.ensures.io_after c.compress-value.ensures;
      counted = from_calls w a.spot.layer a.spot.tree a.spot.pair a.sig.now a.m.now _ ds
          c.walk_in-calls.ensures.f_calls;
      value_long = search rules;
    }
