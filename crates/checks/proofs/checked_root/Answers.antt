-- `checked_root` reads where the message points and walks from there.
-- Assumes nothing.
use mathlib.Core.Path.{◌∙◌}
use Rattle.message_calls.specs.Framed.{joined}
use Rattle.rows.specs.Rows.{ruled_row}
use Rattle.calls.specs.Hashes.{family_for}
use Rattle.points.proofs.PointLaws.{in_key}
use Rattle.checks.proofs.CheckLaws.{checked_made, checked_calls}
use Rattle.checks.proofs.checked_root.Goals as goal

pub root_at-requires : goal.root_at-requires
root_at-requires c =
    let q = in_key (ruled_row c.args.set.row) c.args.set.ready.legal _ c.aim-pointed.ensures in
    record {
      seal_len = c.requires.1;
      indices_fit = (q.indices_long, q.indices_below);
    }

pub returns : goal.returns
returns c =
    let a = c.args in
    let r = ruled_row a.set.row in
    let M = joined a.framed.now in
    let two = c.requires.0 ∙ c.args.set.ready.legal.public_long in
    let e = c.aim-pointed.ensures in
    let g = c.root_at.ensures in
    record {
      value_is = checked_made r (family_for r) a.public.now M a.seal.now two e g.value_is;
      counted = checked_calls r (family_for r) a.public.now M a.seal.now two e g.counted;
      value_long = g.value_long;
    }
