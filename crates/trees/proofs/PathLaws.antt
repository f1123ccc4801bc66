-- The laws of a path in code: what is written and the path that is left from each height on are the whole path.
-- Assumes nothing.
use mathlib.Core.Path.{◌≡◌}
use mathlib.Core.List.{◌++◌, append_assoc, append-nil}
use Prim.Native.Nat.{ℕ, suc, ◌+◌, ◌-◌, ◌*◌, ◌/◌, ◌%◌, ◌^◌, ◌≤◌, ◌<◌}
use native.Mathlib.Numerals.{add-one}
use native.Mathlib.Nat.{pow-suc, le_trans, mul-le-mul_right}
use native.Mathlib.Omega.{arith}
use lib.Pow.{pow_pos}
use Rattle.rules.specs.Places.{Bytes}
use Rattle.rules.specs.Calls.{Hashes}
use Rattle.rules.specs.Trees.{Tree, node, path, sibling}

module _ (w : Hashes) (tree : Tree) (count z j : ℕ) where
  -- A turn: the node at the sibling's index, and the path that is left from the node above.
  pub path_turn : (front : Bytes) {s : ℕ} {v whole : Bytes} → z < count → s ≡ sibling j
      → v ≡ (node w tree z s).result → front ++ (path w tree (count - z) z j).result ≡ whole
      → (front ++ v) ++ (path w tree (count - (z + 1)) (z + 1) (j / 2)).result ≡ whole
  unfolding path
  path_turn front h e q p =
      let left : count - z ≡ suc (count - suc z) = omega arith in
      rw (append_assoc, q, e, add-one z) (rw left at p)

  -- At the top no path is left.
  pub path_end : (out : Bytes) {whole : Bytes} → count ≤ z → out ++ (path w tree (count - z) z j).result ≡ whole
      → out ≡ whole
  unfolding path
  path_end out h p =
      let left : count - z ≡ 0 = omega arith in
      rw (left, append-nil) at p

-- ---- Room below 2^32 leaves

-- In a turn there is room for the sibling, and again at the next height.
pub room_turn : (count z j : ℕ) → z < count → (j + 2 ^ (count - z)) * 2 ^ z ≤ 2 ^ 32
    → ((sibling j + 1) * 2 ^ z ≤ 2 ^ 32) × ((j / 2 + 2 ^ (count - (z + 1))) * 2 ^ (z + 1) ≤ 2 ^ 32)
unfolding sibling
room_turn count z j h r =
    let k = count - suc z in
    let left : count - z ≡ suc k = omega arith in
    let r' : (j + 2 ^ k * 2) * 2 ^ z ≤ 2 ^ 32 = rw (left, pow-suc 2 k) at r in
    let one : 1 ≤ 2 ^ k = pow_pos k in
    let up : (j / 2 + 2 ^ k) * (2 ^ z * 2) ≡ (2 * (j / 2) + 2 ^ k * 2) * 2 ^ z = omega arith in (
      le_trans (mul-le-mul_right {m = j + 1 - 2 * (j % 2) + 1} {n = j + 2 ^ k * 2} (2 ^ z) (omega arith)) r',
      rw (add-one z, pow-suc 2 z, up)
          (le_trans (mul-le-mul_right {m = 2 * (j / 2) + 2 ^ k * 2} {n = j + 2 ^ k * 2} (2 ^ z) (omega arith)) r'),
    )
