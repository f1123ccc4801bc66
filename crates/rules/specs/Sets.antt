-- The sets: rows of parameters, what is legal of a row, the one table where the sets' numbers stand (FIPS 205, table
-- 2), and its test.
-- Assumes nothing.
use Rattle.std.specs.Prelude.{◌≡◌, Bool, true, ◌&&◌, cond, List, [], ◌∷◌, ℕ, ◌+◌, ◌-◌, ◌*◌, ◌/◌, ◌<◌, ltb, eqb}
use Rattle.std.proofs.Math.Option.{Option, some, none}
use Rattle.rules.specs.Chains.{chains, checksum_digits}

-- A row of the table of sets: its number, table 2's parameters, and the bytes of a public key, a secret key and a seal.
pub record Row : Type 0 where
  pub number : ℕ
  pub n : ℕ
  pub h : ℕ
  pub d : ℕ
  pub h' : ℕ
  pub a : ℕ
  pub k : ℕ
  pub m : ℕ
  pub public_bytes : ℕ
  pub secret_bytes : ℕ
  pub seal_bytes : ℕ

abbrev pub row : (number n h d h' a k m public_bytes secret_bytes seal_bytes : ℕ) → Row
row number n h d h' a k m public_bytes secret_bytes seal_bytes = record {
  number = number;
  n = n;
  h = h;
  d = d;
  h' = h';
  a = a;
  k = k;
  m = m;
  public_bytes = public_bytes;
  secret_bytes = secret_bytes;
  seal_bytes = seal_bytes;
}

--     number  n  h  d  h'  a  k  m  public key  secret key  seal
unfoldable pub rows : List Row
rows =
    row 1 16 63 7 9 12 14 30 32 64 7856
    ∷ row 2 16 66 22 3 6 33 34 32 64 17088
    ∷ []

-- The bytes that hold a number of bits: bits / 8, rounded up.
abbrev pub bytes_for : (bits : ℕ) → ℕ
bytes_for bits = (bits + 7) / 8

-- What every theorem needs of a row. The last line says that a checksum has three digits.
pub record Legal (r : Row) : Type 0 where
  pub layers : r.h ≡ r.d * r.h'
  pub some_layer : 0 < r.d
  pub digest_long : r.m ≡ bytes_for (r.k * r.a) + (bytes_for (r.h - r.h') + bytes_for r.h')
  pub public_long : r.public_bytes ≡ 2 * r.n
  pub secret_long : r.secret_bytes ≡ 4 * r.n
  pub seal_long : r.seal_bytes ≡ (1 + r.k * (r.a + 1) + r.h + chains r.n * r.d) * r.n
  pub checksum_digits_lem : checksum_digits r.n ≡ 3

-- The test of a row: each line of `Legal`.
unfoldable pub good : Row → Bool
good r =
    eqb r.h (r.d * r.h')
    && (ltb 0 r.d
    && (eqb r.m (bytes_for (r.k * r.a) + (bytes_for (r.h - r.h') + bytes_for r.h'))
    && (eqb r.public_bytes (2 * r.n)
    && (eqb r.secret_bytes (4 * r.n)
    && (eqb r.seal_bytes ((1 + r.k * (r.a + 1) + r.h + chains r.n * r.d) * r.n)
    && eqb (checksum_digits r.n) 3)))))

-- Every row passes a test.
unfoldable pub every : (test : Row → Bool) → List Row → Bool
every test [] = true
every test (r ∷ rs) = test r && every test rs

-- The row of a set number.
unfoldable pub find : (number : ℕ) → List Row → Option Row
find number [] = none
find number (r ∷ rs) = cond (eqb number r.number) (some r) (find number rs)

unfoldable pub row_of : (number : ℕ) → Option Row
row_of number = find number rows
