-- A hash tree over a leaf rule, a path through it, and the root that a path leads to (FIPS 205, sections 6.1 and 8).
-- Layers and forest share it: algorithms 9 and 15, 10 and 16, 11 and 17 differ only in leaf rule and places.
-- Assumes nothing.
use Rattle.std.specs.Prelude.{[], ◌++◌, ℕ, zero, suc, ◌+◌, ◌-◌, ◌*◌, ◌/◌, ◌%◌, take, drop}
use Rattle.rules.specs.Places.{Bytes, Place}
use Rattle.rules.specs.Calls.{H, Hashes, Run, return, ◌>>=◌, ask}

-- A tree: the rule of its leaves, and the place of the node at a height and an index.
pub record Tree : Type 0 where
  pub leaf : ℕ → Run Bytes
  pub place : (height index : ℕ) → Place

-- The two children in their order, where v has a sibling s and v's index has the remainder given by 2.
unfoldable pub join : (remainder : ℕ) (v s : Bytes) → Bytes
join zero v s = v ++ s
join (suc _) v s = s ++ v

-- The index of the sibling: index xor 1.
unfoldable pub sibling : ℕ → ℕ
sibling i = i + 1 - 2 * (i % 2)

-- Algorithms 9, xmss_node, and 15, fors_node: the node at height z and index i.
unfoldable pub node : (w : Hashes) (tree : Tree) (z i : ℕ) → Run Bytes
node w tree zero i = tree.leaf i
node w tree (suc z) i = do
  l ← node w tree z (2 * i)
  r ← node w tree z (2 * i + 1)
  ask w H (tree.place (suc z) i) (l ++ r)

-- Algorithms 10, xmss_sign, and 16, fors_sign: `count` siblings from height z and index i on, from the bottom up.
unfoldable pub path : (w : Hashes) (tree : Tree) (count z i : ℕ) → Run Bytes
path w tree zero z i = return []
path w tree (suc count) z i = do
  s ← node w tree z (sibling i)
  rest ← path w tree count (suc z) (i / 2)
  return (s ++ rest)

-- Algorithms 11, xmss_pkFromSig, and 17, fors_pkFromSig: from the value v at height z and index i, `count` heights up
-- along the siblings in `auth`.
unfoldable pub climb : (w : Hashes) (place : ℕ → ℕ → Place) (count z i : ℕ) (v auth : Bytes) → Run Bytes
climb w place zero z i v auth = return v
climb w place (suc count) z i v auth = do
  u ← ask w H (place (suc z) (i / 2)) (join (i % 2) v (take w.n auth))
  climb w place count (suc z) (i / 2) u (drop w.n auth)
