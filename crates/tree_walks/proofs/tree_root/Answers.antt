-- `tree_root` climbs from F of the secret value along the path, and that F is its one call.
-- Assumes nothing.
use mathlib.Core.Path.{refl, sym}
use borrow.Author.Rules.{rules}
use Rattle.calls.specs.Hashes.{ruled_hashes}
use Rattle.tree_walks.proofs.TreeLaws.{tree_made, tree_calls}
use Rattle.tree_walks.proofs.tree_root.Goals as goal

pub returns : goal.returns
returns c =
    let a = c.args in
    let w = ruled_hashes a.hashes.now in
    record {
      value_is = tree_made w a.pointed.tree a.pointed.leaf a.a a.i a.part.now
          c.address_at.ensures c.f-leaf.ensures c.climb-value.ensures;
      counted = sym (tree_calls w a.pointed.tree a.pointed.leaf a.a a.i a.part.now refl);
      value_long = search rules;
    }
