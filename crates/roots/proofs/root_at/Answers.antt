-- `root_at` walks the forest's part and then, on what it led to, the layers' parts.
-- Assumes nothing.
use Rattle.rows.specs.Rows.{ruled_row}
use Rattle.calls.specs.Hashes.{family_for}
use Rattle.rows.proofs.ShapeLaws.{wood, stack}
use Rattle.points.specs.At.{at}
use Rattle.roots.proofs.RootLaws.{forest_long, rest_long, root_made, root_calls, few_calls}
use Rattle.roots.proofs.root_at.Goals as goal

pub forest_root-low-requires : goal.forest_root-low-requires
forest_root-low-requires c =
    let r = ruled_row c.args.set.row in
    let long = forest_long r c.args.seal.now c.args.set.ready c.requires.seal_len in
    rw (c.kit_of-kit.ensures, c.forest_bytes.ensures)
    (wood r c.args.set.ready _ _ c.requires.indices_fit.0 long, c.requires.indices_fit.1)

pub layers_root-top-requires : goal.layers_root-top-requires
layers_root-top-requires c =
    let r = ruled_row c.args.set.row in
    rw (c.kit_of-kit.ensures, c.forest_bytes.ensures)
    (stack r c.args.set.ready _ (rest_long r c.args.seal.now c.args.set.ready c.requires.seal_len))

pub overflow_add-result : goal.overflow_add-result
overflow_add-result c =
    let a = c.args in
    let r = ruled_row a.set.row in
    let e = c.kit_of-kit.ensures in
    let f = c.forest_bytes.ensures in
    record {
      fits = few_calls r (family_for r) a.seed.now a.seal.now c.args.set.ready c.requires.seal_len a.indices.now
          c.requires.indices_fit.0 _ _ _ _ _ (rw (e, f) at c.forest_root-low.ensures.counted)
          (rw (e, f) at c.layers_root-top.ensures.counted);
    }

pub returns : goal.returns
returns c =
    let a = c.args in
    let r = ruled_row a.set.row in
    let p = at a.pointed a.indices.now in
    let e = rw (c.kit_of-kit.ensures, c.forest_bytes.ensures) at c.forest_root-low.ensures in
    let g = rw (c.kit_of-kit.ensures, c.forest_bytes.ensures) at c.layers_root-top.ensures in
    record {
      value_is = root_made r (family_for r) a.seed.now p a.seal.now e.value_is g.value_is;
      counted = root_calls r (family_for r) a.seed.now p a.seal.now e.value_is e.counted g.counted;
      value_long = g.value_long;
    }
