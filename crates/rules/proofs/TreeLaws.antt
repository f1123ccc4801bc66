-- The laws of a hash tree, over any leaf rule and any places: a climb along its own path comes to the own node above.
-- Assumes nothing.
use mathlib.Core.Path.{◌≡◌, refl, sym, ap, ap₂, ◌∙◌}
use mathlib.Core.List.{◌++◌}
use Prim.Native.Nat.{ℕ, zero, suc, ◌+◌, ◌*◌, ◌/◌, ◌%◌, ◌^◌, ◌<◌}
use native.Mathlib.Nat.{mod-lt, zero-lt-suc, zero-mul, add-zero, div-one}
use native.Mathlib.Omega.{arith}
use lib.ListN.{length, drop, length-append}
use lib.Seq.{take_at, drop_at}
use Rattle.lists.proofs.Numbers.{half_shift}
use Rattle.rules.specs.Places.{Bytes, IsBytes, Place, address}
use Rattle.rules.specs.Calls.{H, Hashes}
use Rattle.rules.specs.Trees.{Tree, join, sibling, node, path, climb}

-- ---- The two children of a node

-- Joined in order, what a rule gives for i and its sibling is what it gives for the two children of i / 2.
pub children : (f : ℕ → Bytes) (i : ℕ) → join (i % 2) (f i) (f (sibling i)) ≡ f (2 * (i / 2)) ++ f (2 * (i / 2) + 1)
unfolding join sibling
children f i = by_side (i % 2) refl (mod-lt i (zero-lt-suc 1))
  where
    by_side : (r : ℕ) → i % 2 ≡ r → r < 2
        → join r (f i) (f (sibling i)) ≡ f (2 * (i / 2)) ++ f (2 * (i / 2) + 1)
    by_side zero e h = ap₂ (λ a b. f a ++ f b) (omega arith) (omega arith)
    by_side (suc r) e h = ap₂ (λ a b. f a ++ f b) (omega arith) (omega arith)

-- A climb from n bytes comes to n bytes.
pub climb_sized : (w : Hashes) (place : ℕ → ℕ → Place) (k z i : ℕ) (v auth : Bytes) → IsBytes w.n v
    → IsBytes w.n (climb w place k z i v auth).result
unfolding climb
climb_sized w place zero z i v auth h = h
climb_sized w place (suc k) z i v auth h =
    climb_sized w place k (suc z) (i / 2) _ (drop w.n auth) (w.sized H (address (place (suc z) (i / 2))) _)

-- ---- The nodes of a tree

module _ (w : Hashes) (T : Tree) where
  abbrev pub value : (z i : ℕ) → Bytes
  value z i = (node w T z i).result

  -- The own input of the call that makes the node at height z + 1 and index i.
  abbrev pub pair : (z i : ℕ) → Bytes
  pair z i = value z (2 * i) ++ value z (2 * i + 1)

  pub node_suc : (z i : ℕ) → value (suc z) i ≡ w.hash H (address (T.place (suc z) i)) (pair z i)
  unfolding node
  node_suc z i = refl

  -- The node above (z, i) by k + 1 heights is the one above its parent by k.
  pub top_suc : (k z i : ℕ) → node w T (suc k + z) (i / 2 ^ suc k) ≡ node w T (k + suc z) (i / 2 / 2 ^ k)
  top_suc k z i = ap₂ (node w T) (omega arith) (half_shift i k)

  -- The parent, by a node and its sibling.
  parent : (z i : ℕ)
      → w.hash H (address (T.place (suc z) (i / 2))) (join (i % 2) (value z i) (value z (sibling i)))
      ≡ value (suc z) (i / 2)
  parent z i = rw (children (λ (j : ℕ). value z j) i) (sym (node_suc z (i / 2)))

  -- ---- Over leaves of n bytes

  module _ (leaf_sized : (i : ℕ) → IsBytes w.n (T.leaf i).result) where
    pub node_sized : (z i : ℕ) → IsBytes w.n (node w T z i).result
    unfolding node
    node_sized zero i = leaf_sized i
    node_sized (suc z) i = w.sized H _ _

    pub value_long : (z i : ℕ) → length (value z i) ≡ w.n
    value_long z i = (node_sized z i).long

    pub length-path : (k z i : ℕ) → length (path w T k z i).result ≡ k * w.n
    unfolding path
    length-path zero z i = sym (zero-mul w.n)
    length-path (suc k) z i =
        simp length-append (omega (arith, (node_sized z (sibling i)).long, length-path k (suc z) (i / 2)))

    -- Acceptance: from a node along its own path one comes to the node above it.
    climb_path : (k z i : ℕ)
        → (climb w T.place k z i (value z i) (path w T k z i).result).result ≡ value (k + z) (i / 2 ^ k)
    unfolding climb path
    climb_path zero z i = ap₂ value (omega arith) (sym (div-one i))
    climb_path (suc k) z i =
        rw (
          take_at (value z (sibling i)) (path w T k (suc z) (i / 2)).result w.n (value_long z (sibling i)),
          drop_at (value z (sibling i)) (path w T k (suc z) (i / 2)).result w.n (value_long z (sibling i)),
          parent z i,
        )
        (climb_path k (suc z) (i / 2) ∙ sym (ap (λ r. r.result) (top_suc k z i)))

    pub leaf_climbs : (k i top : ℕ) → i / 2 ^ k ≡ top
        → (climb w T.place k 0 i (T.leaf i).result (path w T k 0 i).result).result ≡ (node w T k top).result
    unfolding node
    leaf_climbs k i top e = climb_path k 0 i ∙ ap₂ value (add-zero k) e
