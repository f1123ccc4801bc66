-- `layer_root` climbs from the leaf that the chain values lead to.
-- Assumes nothing.
use borrow.Author.Rules.{rules}
use Rattle.calls.specs.Hashes.{ruled_hashes}
use Rattle.layer_walks.proofs.LayerLaws.{layer_made, layer_calls}
use Rattle.layer_walks.proofs.layer_root.Goals as goal

pub returns : goal.returns
returns c =
    let a = c.args in
    let w = ruled_hashes a.hashes.now in
    let leaf = c.leaf_from-low.ensures in
    record {
      value_is = layer_made w a.hp a.spot.layer a.spot.tree a.spot.pair a.sig.now a.m.now
          c.chain_bytes-size.result c.chain_bytes-size.ensures leaf.value_is c.climb-value.ensures;
      counted = layer_calls w a.hp a.spot.layer a.spot.tree a.spot.pair a.sig.now a.m.now _ leaf.counted;
      value_long = search rules;
    }
