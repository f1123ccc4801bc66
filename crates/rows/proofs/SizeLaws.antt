-- The sizes of a ready row: its forest's part is small, and a seal is the randomizer, the forest's part and the
-- layers'; and the sizes of values of at most 32 bytes.
-- Assumes nothing.
use mathlib.Core.Path.{◌≡◌, ap₂}
use Prim.Native.Nat.{ℕ, ◌+◌, ◌-◌, ◌*◌, ◌^◌, ◌≤◌}
use native.Mathlib.Nat.{mul-le-mul, mul-le-mul_left, mul-le-mul_right, le_trans, zero-mul}
use native.Mathlib.Omega.{arith}
use lib.ListN.{length, take, drop}
use lib.Pow.{pow_mono}
use Rattle.rules.specs.Places.{Bytes}
use Rattle.rules.specs.Layers.{layer_bytes, chain_bytes}
use Rattle.rules.specs.Forest.{tree_bytes, forest_bytes}
use Rattle.rules.specs.Sets.{Row}
use Rattle.rules.specs.Keys.{piece}
use Rattle.rules.specs.Seal.{part_start}
use Rattle.rules.proofs.SealLaws.{seal_parts}
use Rattle.rows.specs.Ready.{Ready}
use Rattle.rows.specs.Shapes.{forest_size, layer_size}

module _ (r : Row) (ready : Ready r) where
  -- A tree's part, and the forest's, are small.
  tree_room : r.n + r.a * r.n ≤ 544
  tree_room = omega (arith, ready.fit.values, mul-le-mul ready.fit.digits ready.fit.values)

  -- All leaves of the forest, and two trees of a layer, are counted in 32 bits.
  pub forest_leaves : (r.k + 1) * 2 ^ r.a ≤ 36 * 2 ^ 16
  forest_leaves =
      let k : r.k + 1 ≤ 36 = omega (arith, ready.fit.trees) in
      mul-le-mul k (pow_mono ready.fit.digits)

  pub layer_leaves : 2 ^ r.h' ≤ 2 ^ 16
  layer_leaves = pow_mono ready.fit.heights

  pub seal_size : r.seal_bytes ≡ r.n + forest_size r + r.d * layer_size r
  unfolding forest_bytes tree_bytes layer_bytes chain_bytes
  seal_size = seal_parts r ready.legal

-- The layers' parts begin where the forest's ends.
pub layers_start : (r : Row) → part_start r 2 ≡ r.n + forest_size r
unfolding part_start forest_bytes tree_bytes
layers_start r = omega (arith, zero-mul (layer_bytes r.n r.h'))

-- ---- Sizes for values of at most 32 bytes

-- The ends of all chains fit 67 values of 32 bytes.
pub size_fits : (n : ℕ) → n ≤ 32 → (2 * n + 3) * n ≤ 2144
size_fits n h = le_trans (mul-le-mul_right {m = 2 * n + 3} {n = 67} n (omega arith)) (omega arith)

-- The roots of at most 35 trees fit 35 values of 32 bytes.
pub wood_fits : (k n : ℕ) → k ≤ 35 → n ≤ 32 → k * n ≤ 1120
wood_fits k n h l = le_trans (mul-le-mul_left k l) (mul-le-mul_right {m = k} {n = 35} 32 h)

-- ---- The pieces of a key, as code lends them

-- Piece i of a string.
pub piece_lent : (n i from to : ℕ) (x : Bytes) → from ≡ i * n → to ≡ from + n
    → take (to - from) (drop from x) ≡ piece n i x
piece_lent n i from to x e g =
    let long : to - from ≡ n = omega arith in
    ap₂ (λ (k m : ℕ). take k (drop m x)) long e

-- The second of two pieces is the rest.
pub rest_piece : (n : ℕ) (x : Bytes) → length x ≡ 2 * n → take (length x - n) (drop n x) ≡ piece n 1 x
rest_piece n x long = piece_lent n 1 n (length x) x (omega arith) (omega (arith, long))
