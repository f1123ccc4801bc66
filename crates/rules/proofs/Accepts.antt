-- Demand 2: a seal that the rules write with a key made from seeds is accepted under its public key, since the forest,
-- then each layer, leads to the value that the next one seals.
-- Assumes nothing.
use mathlib.Core.Path.{◌≡◌, refl, sym, ap, ap₂, ◌∙◌}
use mathlib.Core.List.{◌++◌}
use Prim.Native.Nat.{ℕ, ◌+◌, ◌-◌}
use native.Mathlib.Nat.{zero-add}
use native.Mathlib.Omega.{arith}
use lib.ListN.{length, length-append}
use Rattle.rules.specs.Places.{Bytes}
use Rattle.rules.specs.Calls.{Family, under, ◌>>=◌}
use Rattle.rules.specs.Layers.{own_root, tree_at, leaf_at}
use Rattle.rules.specs.Sets.{Row, Legal}
use Rattle.rules.specs.Digest.{Pointed, pointed}
use Rattle.rules.specs.Keys.{key_root, public_key, secret_key}
use Rattle.rules.specs.Seal.{mixed_in, randomizer_of, digest_of, written, seal_with, seal_of, part, held_value}
use Rattle.rules.specs.Check.{layers_part, root_at, checked_root, Accepted}
use Rattle.rules.proofs.LayerLaws.{layers_accept}
use Rattle.rules.proofs.ForestLaws.{forest_accepts}
use Rattle.rules.proofs.DigestLaws.{Inside, points_inside}
use Rattle.rules.proofs.KeyLaws.{public_seed, public_root, secret_seed, secret_prf, secret_public, secret_root}
use Rattle.rules.proofs.SealLaws.{written_long, part_randomizer, part_forest, part_layers, seal_parts}

module _ (r : Row) (f : Family r.n r.m) where
  -- The check under a key made from seeds, by the seeds and the root.
  pub checked_is : (sk pk M seal : Bytes) → length pk ≡ r.n → checked_root r f (public_key r f sk pk) M seal
      ≡ (digest_of r f (part r 0 seal) pk (key_root r f sk pk).result M >>= λ D. root_at r f pk seal (pointed r D))
  unfolding checked_root
  checked_is sk pk M seal long =
      ap₂ (λ s root. digest_of r f (part r 0 seal) s root M >>= λ D. root_at r f s seal (pointed r D))
      (public_seed r f sk pk long) (public_root r f sk pk long)

  module _ (legal : Legal r) (sk pk : Bytes) where
    -- At a place of the key, what is written for it leads to the key's root.
    root_accepts : (at : Pointed) → Inside r at → (R : Bytes) → length R ≡ r.n
        → (root_at r f pk (R ++ (written r f sk pk at).result) at).result ≡ (key_root r f sk pk).result
    unfolding root_at layers_part key_root tree_at leaf_at held_value
    root_accepts at p R long =
        rw (
          part_forest r legal f sk pk at p R long,
          part_layers r legal f sk pk at p R long,
          forest_accepts (under f pk) sk at.tree at.leaf r.a r.k at.indices p.indices_below
              p.indices_long,
        )
        (layers_accept (under f pk) r.h' sk (r.d - 1) 0 at.tree at.leaf _ p.leaf_lt p.tree_lt
        ∙ ap (λ (x : ℕ). (own_root (under f pk) r.h' sk x 0).result) (zero-add (r.d - 1)))

    seal_with_is : (R root M : Bytes)
        → (seal_with r f R sk pk root M).result
        ≡ R ++ (written r f sk pk (pointed r (digest_of r f R pk root M).result)).result
    unfolding seal_with digest_of
    seal_with_is R root M = refl

    pub seal_with_long : (R root M : Bytes) → length R ≡ r.n
        → length (seal_with r f R sk pk root M).result ≡ r.seal_bytes
    seal_with_long R root M long =
        ap length (seal_with_is R root M) ∙ length-append R _
        ∙ ap₂ ◌+◌ long (written_long r legal f sk pk _ (points_inside r legal (digest_of r f R pk root M).result))
        ∙ omega (arith, seal_parts r legal)

    -- Whatever the randomizer, the seal is accepted.
    pub accepts_with : (R M : Bytes) → length pk ≡ r.n → length R ≡ r.n
        → Accepted r f (public_key r f sk pk) M (seal_with r f R sk pk (key_root r f sk pk).result M).result
    accepts_with R M pk_long R-long = record {
      long = seal_with_long R (key_root r f sk pk).result M R-long;
      same_root = ap (λ run. run.result) (checked_is sk pk M _ pk_long) ∙ leads ∙ sym (public_root r f sk pk pk_long);
    }
      where
        root : Bytes
        root = (key_root r f sk pk).result

        at : Pointed
        at = pointed r (digest_of r f R pk root M).result

        p : Inside r at
        p = points_inside r legal (digest_of r f R pk root M).result

        seal : Bytes
        seal = (seal_with r f R sk pk root M).result

        leads : (root_at r f pk seal (pointed r (digest_of r f (part r 0 seal) pk root M).result)).result ≡ root
        leads =
            rw (seal_with_is R root M, part_randomizer r legal f sk pk at p R R-long) (root_accepts at p R R-long)

  -- Every seal made with a secret key from key making, with any randomizer input, is accepted under its public key.
  module _ (legal : Legal r) (sk prf pk : Bytes)
      (sk_long : length sk ≡ r.n) (prf_long : length prf ≡ r.n) (pk_long : length pk ≡ r.n) where
    pub seal_of_is : (random M : Bytes)
        → (seal_of r f (secret_key r f sk prf pk) random M).result
        ≡ (seal_with r f (f.prf_msg prf (mixed_in random pk) M) sk pk (key_root r f sk pk).result M).result
    unfolding seal_of randomizer_of
    seal_of_is random M =
        rw (
          secret_seed r f sk prf pk sk_long prf_long pk_long,
          secret_prf r f sk prf pk sk_long prf_long pk_long,
          secret_public r f sk prf pk sk_long prf_long pk_long,
          secret_root r f sk prf pk sk_long prf_long pk_long,
        )

    pub accepts : (random M : Bytes)
        → Accepted r f (public_key r f sk pk) M (seal_of r f (secret_key r f sk prf pk) random M).result
    accepts random M =
        rw (seal_of_is random M)
        (accepts_with legal sk pk (f.prf_msg prf (mixed_in random pk) M) M pk_long
        (f.prf_msg_sized prf (mixed_in random pk) M).long)
