-- Where a message digest points (FIPS 205, section 9.2).
-- Assumes nothing.
use Rattle.std.specs.Prelude.{List, ℕ, ◌+◌, ◌-◌, ◌*◌, ◌%◌, ◌^◌, take, drop}
use Rattle.rules.specs.Digits.{to_int, base2b}
use Rattle.rules.specs.Places.{Bytes}
use Rattle.rules.specs.Sets.{Row, bytes_for}

-- Where a digest points: the forest's digits, the tree in layer 0 and the leaf in it.
pub record Pointed : Type 0 where
  pub indices : List ℕ
  pub tree : ℕ
  pub leaf : ℕ

-- The last `bits` bits of a byte string, as a number.
unfoldable pub last_bits : (bits : ℕ) (X : Bytes) → ℕ
last_bits bits X = to_int X % 2 ^ bits

-- Algorithms 19, lines 6 to 10, and 20, lines 9 to 13: the forest's bytes, then the tree's, then the leaf's.
unfoldable pub pointed : Row → (digest : Bytes) → Pointed
pointed r D =
    let forest_bytes_long : ℕ = bytes_for (r.k * r.a) in
    let tree_long : ℕ = bytes_for (r.h - r.h') in
    let leaf_long : ℕ = bytes_for r.h' in
    record {
      indices = base2b (take forest_bytes_long D) r.a r.k;
      tree = last_bits (r.h - r.h') (take tree_long (drop forest_bytes_long D));
      leaf = last_bits r.h' (take leaf_long (drop (forest_bytes_long + tree_long) D));
    }
