-- `forest_root` compresses the roots that the trees' parts lead to.
-- Assumes nothing.
use Prim.Native.Nat.{◌*◌}
use borrow.Author.Rules.{rules}
use lib.ListN.{length, replicate}
use lib.Seq.{length-take-le}
use Rattle.lists.proofs.Bits.{one_shifted}
use Rattle.rows.proofs.SizeLaws.{wood_fits}
use Rattle.calls.specs.Hashes.{ruled_hashes}
use Rattle.forest_walks.proofs.ForestLaws.{forest_made, forest_calls}
use Rattle.forest_walks.proofs.forest_root.Goals as goal

pub roots_in-calls-requires : goal.roots_in-calls-requires
roots_in-calls-requires c =
    let wood = c.requires.0 in
    let e = one_shifted c.args.a 32 wood.low in
    let size = length c.args.ds.now * c.args.hashes.now.kit.n in
    record {
      sizes = (wood.small, e, rw e wood.leaves, rw e c.requires.1);
      lent_len = (
        wood.sig_long,
        length-take-le size (replicate 1120 0) (wood_fits (length c.args.ds.now) c.args.hashes.now.kit.n wood.few
            wood.small),
        wood.few,
      );
    }

pub returns : goal.returns
returns c =
    let a = c.args in
    let w = ruled_hashes a.hashes.now in
    record {
      value_is = forest_made w a.pointed.tree a.pointed.leaf a.a a.ds.now a.sig.now
          c.address_at.ensures c.roots_in-calls.ensures.out_after c.t-value.ensures;
      counted = forest_calls w a.pointed.tree a.pointed.leaf a.a a.ds.now a.sig.now c.roots_in-calls.ensures.f_calls;
      value_long = search rules;
    }
