-- Keys as bytes (FIPS 205, section 9.1).
-- Assumes nothing.
use Rattle.std.specs.Prelude.{◌++◌, ℕ, ◌-◌, ◌*◌, take, drop}
use Rattle.rules.specs.Places.{Bytes}
use Rattle.rules.specs.Calls.{Family, under, Run}
use Rattle.rules.specs.Layers.{own_root}
use Rattle.rules.specs.Sets.{Row}

-- The i-th n bytes of a string.
abbrev pub piece : (n i : ℕ) (x : Bytes) → Bytes
piece n i x = take n (drop (i * n) x)

module _ (r : Row) (f : Family r.n r.m) where
  -- Algorithm 18, slh_keygen_internal, lines 1 to 3: the root of the single tree in layer d - 1.
  unfoldable pub key_root : (sk_seed pk_seed : Bytes) → Run Bytes
  key_root sk_seed pk_seed = own_root (under f pk_seed) r.h' sk_seed (r.d - 1) 0

  -- Algorithm 18, line 4: public seed, root; and secret seed, prf seed, public seed, root.
  unfoldable pub public_key : (sk_seed pk_seed : Bytes) → Bytes
  public_key sk_seed pk_seed = pk_seed ++ (key_root sk_seed pk_seed).result

  unfoldable pub secret_key : (sk_seed sk_prf pk_seed : Bytes) → Bytes
  secret_key sk_seed sk_prf pk_seed = sk_seed ++ (sk_prf ++ (pk_seed ++ (key_root sk_seed pk_seed).result))
