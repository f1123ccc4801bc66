-- A climb that comes to the key's own node went along its own path, or two H calls collide: looked for from the top
-- down.
-- Assumes nothing.
use mathlib.Core.Path.{◌≡◌, refl, sym, ap, ap₂, ◌∙◌, subst, subst₂}
use mathlib.Core.Logic.{◌⊎◌, inl}
use mathlib.Core.List.Memᴰ
use mathlib.Core.List.{[], ◌∷◌, ◌++◌, Memᴰ}
use Prim.Native.Nat.{ℕ, zero, suc, ◌+◌, ◌*◌, ◌/◌, ◌%◌, ◌^◌, ◌<◌}
use native.Mathlib.Nat.{mod-lt, zero-lt-suc, zero-mul, zero-add, add-zero, div-one, suc-mul}
use native.Mathlib.Omega.{arith}
use lib.ListN.{length, take, drop, length-drop, take-append-drop}
use lib.Seq.{length-take-le}
use Rattle.lists.proofs.Parts.{append_inj, nil_of_length}
use Rattle.rules.specs.Places.{Bytes, IsBytes, address}
use Rattle.rules.specs.Calls.{H, Hashes, Call, call_of}
use Rattle.rules.specs.Trees.{Tree, join, sibling, node, path, climb}
use Rattle.findings.specs.Findings.{Collision, an_h}
use Rattle.rules.proofs.TreeLaws.{children, value, pair, node_suc, top_suc, value_long}
use Rattle.findings.proofs.FindingLaws.{Owns, before, after, same_input, then, found}

-- Equal joined pairs are equal one by one.
join_inj : {n : ℕ} (r : ℕ) {a b c d : Bytes} → length a ≡ n → length b ≡ n → length c ≡ n → length d ≡ n
    → join r a b ≡ join r c d → (a ≡ c) × (b ≡ d)
unfolding join
join_inj zero la lb lc ld e = append_inj la lc e
join_inj (suc r) la lb lc ld e = let q = append_inj lb ld e in (q.1, q.0)

module _ (w : Hashes) (T : Tree) where
  -- ---- The calls of a tree

  -- A node's calls are calls of its parent.
  to_parent : (c : Call) (z i : ℕ) → Memᴰ c (node w T z i).calls → Memᴰ c (node w T (suc z) (i / 2)).calls
  unfolding node
  to_parent c z i m = by_side (i % 2) refl (mod-lt i (zero-lt-suc 1))
    where
      by_side : (r : ℕ) → i % 2 ≡ r → r < 2 → Memᴰ c (node w T (suc z) (i / 2)).calls
      by_side zero e h = Memᴰ.append_left _ (subst (λ (y : ℕ). Memᴰ c (node w T z y).calls) i_even m)
        where
          i_even : i ≡ 2 * (i / 2)
          i_even = omega arith
      by_side (suc r) e h =
          Memᴰ.append_right (node w T z (2 * (i / 2))).calls
          (Memᴰ.append_left _ (subst (λ (y : ℕ). Memᴰ c (node w T z y).calls) i_odd m))
        where
          i_odd : i ≡ 2 * (i / 2) + 1
          i_odd = omega arith

  -- A node's calls are calls of the node k heights above it.
  to_top : (c : Call) (k z i : ℕ) → Memᴰ c (node w T z i).calls
      → Memᴰ c (node w T (k + z) (i / 2 ^ k)).calls
  to_top c zero z i m =
      subst₂ (λ (y e : ℕ). Memᴰ c (node w T y e).calls) (sym (zero-add z)) (sym (div-one i)) m
  to_top c (suc k) z i m = rw (top_suc w T k z i) (to_top c k (suc z) (i / 2) (to_parent c z i m))

  last_call : (z i : ℕ) → Memᴰ (call_of H (T.place (suc z) i) (pair w T z i)) (node w T (suc z) i).calls
  unfolding node
  last_call z i =
      Memᴰ.append_right (node w T z (2 * i)).calls
      (Memᴰ.append_right (node w T z (2 * i + 1)).calls (Memᴰ.head refl))

  -- The calls of leaf i are calls of the node k heights above it.
  pub owns_leaf : (Own : Call → Type 0) (k i top : ℕ) → i / 2 ^ k ≡ top → Owns Own (node w T k top)
      → Owns Own (T.leaf i)
  unfolding node
  owns_leaf Own k i top e o c m =
      o c (subst₂ (λ (y x : ℕ). Memᴰ c (node w T y x).calls) (add-zero k) e (to_top c k 0 i m))

  -- ---- Over leaves of n bytes

  module _ (leaf_sized : (i : ℕ) → IsBytes w.n (T.leaf i).result) where
    -- What a climb to the own node shows, looked for from the top down.
    module _ (Own : Call → Type 0) where
      climb_shows : (k z i : ℕ) (v auth : Bytes) → Owns Own (node w T (k + z) (i / 2 ^ k)) → length v ≡ w.n
          → length auth ≡ k * w.n → (climb w T.place k z i v auth).result ≡ value w T (k + z) (i / 2 ^ k)
          → ((v ≡ value w T z i) × (auth ≡ (path w T k z i).result))
          ⊎ Collision w Own (climb w T.place k z i v auth).calls
      unfolding climb path
      climb_shows zero z i v auth o lv la e =
          inl (e ∙ ap₂ (value w T) (omega arith) (div-one i), nil_of_length auth (la ∙ zero-mul w.n))
      climb_shows (suc k) z i v auth o lv la e =
          then (found (after (call_of H (T.place (suc z) (i / 2)) x ∷ []))
          (climb_shows k (suc z) (i / 2) u (drop w.n auth) (rw (top_suc w T k z i) at o)
          (w.sized H (address (T.place (suc z) (i / 2))) x).long (simp length-drop (omega arith))
          (e ∙ ap (λ r. r.result) (top_suc w T k z i)))) (λ q.
          then (found (before (climb w T.place k (suc z) (i / 2) u (drop w.n auth)).calls)
          (same_input w Own an_h (T.place (suc z) (i / 2)) x (pair w T z (i / 2)) own_call
          (q.0 ∙ node_suc w T z (i / 2)))) (λ s.
          inl ((split s).0, sym (take-append-drop w.n auth) ∙ ap₂ ◌++◌ (split s).1 q.1)))
        where
          x : Bytes
          x = join (i % 2) v (take w.n auth)

          u : Bytes
          u = w.hash H (address (T.place (suc z) (i / 2))) x

          own_call : Own (call_of H (T.place (suc z) (i / 2)) (pair w T z (i / 2)))
          own_call =
              (rw (top_suc w T k z i) at o) _ (to_top _ k (suc z) (i / 2) (last_call z (i / 2)))

          split : x ≡ pair w T z (i / 2) → (v ≡ value w T z i) × (take w.n auth ≡ value w T z (sibling i))
          split s =
              join_inj (i % 2) lv (length-take-le w.n auth (omega (arith, suc-mul k w.n)))
              (value_long w T leaf_sized z i)
              (value_long w T leaf_sized z (sibling i)) (s ∙ sym (children (λ (j : ℕ). value w T z j) i))

      pub leaf_climb_shows : (k i top : ℕ) (v auth : Bytes) → i / 2 ^ k ≡ top → Owns Own (node w T k top)
          → length v ≡ w.n → length auth ≡ k * w.n
          → (climb w T.place k 0 i v auth).result ≡ (node w T k top).result
          → ((v ≡ (T.leaf i).result) × (auth ≡ (path w T k 0 i).result))
          ⊎ Collision w Own (climb w T.place k 0 i v auth).calls
      unfolding node
      leaf_climb_shows k i top v auth t o lv la e =
          climb_shows k 0 i v auth (rw (add-zero k, t) o) lv la (e ∙ ap₂ (value w T) (sym (add-zero k)) (sym t))
