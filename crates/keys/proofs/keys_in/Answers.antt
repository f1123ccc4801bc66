-- `keys_in` writes the public key, and the secret key as its two seeds and then the public key.
-- Assumes nothing.
use Rattle.rows.specs.Rows.{ruled_row}
use Rattle.calls.specs.Hashes.{family_for}
use Rattle.keys.proofs.KeyLaws.{public_made, secret_made}
use Rattle.keys.proofs.keys_in.Goals as goal

pub returns : goal.returns
returns c =
    let a = c.args in
    let r = ruled_row a.set.row in
    let e = c.key_root-root.ensures in record {
      public_after = public_made r (family_for r) a.sk.now a.pk.now e c.pair_in.ensures;
      secret_after = secret_made r (family_for r) a.sk.now a.pk.now e c.pair_in.ensures a.prf.now c.pair_in-2.ensures
          c.copy_from_slice.ensures.after;
    }
