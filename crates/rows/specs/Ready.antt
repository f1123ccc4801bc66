-- What the code needs of a row: it is legal, and fits the room that the code has.
-- Assumes nothing.
use Rattle.std.specs.Prelude.{Bool, ◌&&◌, ◌-◌, ◌≤◌, leb}
use Rattle.rules.specs.Sets.{Row, Legal}

-- The capacities: values of 32 bytes, 35 forest trees, digits of 16 bits, heights of 16, 64 layers, tree numbers of 64
-- bits and digests of 64 bytes. They hold every set of FIPS 205.
pub record Fits (r : Row) : Type 0 where
  pub values : r.n ≤ 32
  pub trees : r.k ≤ 35
  pub digits : r.a ≤ 16
  pub heights : r.h' ≤ 16
  pub layers : r.d ≤ 64
  pub tree_bits : r.h - r.h' ≤ 64
  pub digests : r.m ≤ 64

-- The test of a row: each line of `Fits`.
unfoldable pub fits : Row → Bool
fits r =
    leb r.n 32
    && (leb r.k 35
    && (leb r.a 16
    && (leb r.h' 16
    && (leb r.d 64
    && (leb (r.h - r.h') 64
    && leb r.m 64)))))

pub record Ready (r : Row) : Type 0 where
  pub legal : Legal r
  pub fit : Fits r
