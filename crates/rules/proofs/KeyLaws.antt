-- The lengths of keys, and the pieces that are read back from them.
-- Assumes nothing.
use mathlib.Core.Path.{◌≡◌, ap, ◌∙◌}
use mathlib.Core.List.{◌++◌}
use Prim.Native.Nat.{ℕ, suc, ◌-◌}
use native.Mathlib.Nat.{zero-mul}
use native.Mathlib.Omega.{arith}
use lib.ListN.{length, take, drop, length-append}
use lib.Seq.{take_at, take_all}
use Rattle.lists.proofs.Parts.{piece_suc}
use Rattle.rules.specs.Places.{Bytes, IsBytes}
use Rattle.rules.specs.Calls.{Family, under}
use Rattle.rules.specs.Sets.{Row, Legal}
use Rattle.rules.specs.Keys.{piece, key_root, public_key, secret_key}
use Rattle.rules.proofs.LayerLaws.{own_root_sized}

-- The first piece of a string, a later one, and the last.
piece_first : (n : ℕ) (a b : Bytes) → length a ≡ n → piece n 0 (a ++ b) ≡ a
piece_first n a b e = ap (λ (x : ℕ). take n (drop x (a ++ b))) (zero-mul n) ∙ take_at a b n e

piece_next : (n j : ℕ) (a b : Bytes) → length a ≡ n → piece n (suc j) (a ++ b) ≡ piece n j b
piece_next n j a b e = ap (take n) (piece_suc n j a b e)

piece_last : (n : ℕ) (a : Bytes) → length a ≡ n → piece n 0 a ≡ a
piece_last n a e = ap (λ (x : ℕ). take n (drop x a)) (zero-mul n) ∙ take_all n a (omega arith)

module _ (r : Row) (f : Family r.n r.m) where
  pub key_root_sized : (sk pk : Bytes) → IsBytes r.n (key_root r f sk pk).result
  unfolding key_root
  key_root_sized sk pk = own_root_sized (under f pk) r.h' sk (r.d - 1) 0

  module _ (sk prf pk : Bytes)
      (sk_long : length sk ≡ r.n) (prf_long : length prf ≡ r.n) (pk_long : length pk ≡ r.n) where
    root : Bytes
    root = (key_root r f sk pk).result

    root_long : length root ≡ r.n
    unfolding root
    root_long = (key_root_sized sk pk).long

    -- A secret key has the table's length, and its four pieces are what it was made of.
    pub secret_key_long : Legal r → length (secret_key r f sk prf pk) ≡ r.secret_bytes
    unfolding secret_key root
    secret_key_long legal =
        simp length-append (omega (arith, sk_long, prf_long, pk_long, root_long, legal.secret_long))

    pub secret_seed : piece r.n 0 (secret_key r f sk prf pk) ≡ sk
    unfolding secret_key
    secret_seed = piece_first r.n sk _ sk_long

    pub secret_prf : piece r.n 1 (secret_key r f sk prf pk) ≡ prf
    unfolding secret_key
    secret_prf = piece_next r.n 0 sk _ sk_long ∙ piece_first r.n prf _ prf_long

    pub secret_public : piece r.n 2 (secret_key r f sk prf pk) ≡ pk
    unfolding secret_key
    secret_public =
        piece_next r.n 1 sk _ sk_long ∙ piece_next r.n 0 prf _ prf_long ∙ piece_first r.n pk _ pk_long

    pub secret_root : piece r.n 3 (secret_key r f sk prf pk) ≡ (key_root r f sk pk).result
    unfolding secret_key root
    secret_root =
        piece_next r.n 2 sk _ sk_long ∙ piece_next r.n 1 prf _ prf_long ∙ piece_next r.n 0 pk _ pk_long
        ∙ piece_last r.n root root_long

  module _ (sk pk : Bytes) (pk_long : length pk ≡ r.n) where
    -- A public key has the table's length, and its two pieces are what it was made of.
    pub public_key_long : Legal r → length (public_key r f sk pk) ≡ r.public_bytes
    unfolding public_key
    public_key_long legal =
        length-append pk _ ∙ omega (arith, pk_long, (key_root_sized sk pk).long, legal.public_long)

    pub public_seed : piece r.n 0 (public_key r f sk pk) ≡ pk
    unfolding public_key
    public_seed = piece_first r.n pk _ pk_long

    pub public_root : piece r.n 1 (public_key r f sk pk) ≡ (key_root r f sk pk).result
    unfolding public_key
    public_root =
        piece_next r.n 0 pk _ pk_long ∙ piece_last r.n (key_root r f sk pk).result (key_root_sized sk pk).long
