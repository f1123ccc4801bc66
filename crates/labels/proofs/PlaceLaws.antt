-- At every legal place the key has an own call, so the own calls are just those at legal places: by recursion from a
-- root down to the place.
-- Assumes nothing.
use mathlib.Core.Path.{◌≡◌, refl, sym, ◌∙◌, subst, subst₂}
use mathlib.Core.Logic.{◌↔◌}
use mathlib.Core.List.Memᴰ
use mathlib.Core.List.{List, [], ◌++◌}
use Prim.Native.Nat.{ℕ, zero, suc, ◌+◌, ◌-◌, ◌*◌, ◌/◌, ◌%◌, ◌^◌, ◌≤◌, ◌<◌}
use native.Mathlib.Nat.{zero-add, add-zero, suc-add, add-suc, pow-suc, sub-zero, mod-lt, zero-lt-suc}
use native.Mathlib.Omega.{arith}
use Rattle.rules.specs.Places.{Bytes, Place, chain_step, chain_ends, tree_node, forest_node, forest_roots, chain_secret}
use Rattle.rules.specs.Places.{forest_secret, address}
use Rattle.rules.specs.Calls.{F, H, PRF, Call, call_of, Family, Hashes, under}
use Rattle.rules.specs.Chains.{chains, chain, ends, leaf, own_chain}
use Rattle.rules.specs.Trees.{Tree, node}
use Rattle.rules.specs.Layers.{layer_tree, own_root}
use Rattle.rules.specs.Forest.{forest_leaf, forest_tree, roots, own_forest}
use Rattle.rules.specs.Sets.{Row}
use Rattle.findings.specs.Findings.{OwnCall, of_tree, of_forest}
use Rattle.findings.proofs.FindingLaws.{Owns}
use Rattle.labels.specs.Labels.{LegalTree, LegalForest, LegalPlace, input_at, own_at, Placed}
use Rattle.labels.proofs.OwnLaws.{own_placed}

-- ---- From a run down to its calls, where each of them has P

module _ (w : Hashes) (P : Call → Type 0) where
  -- Step j of a chain.
  step_has : (at : ℕ → Place) (x : Bytes) (i s j : ℕ) → j < s → Owns P (chain w at x i s)
      → P (call_of F (at (i + j)) (chain w at x i j).result)
  unfolding chain
  step_has at x i zero j h o = absurd (omega arith)
  step_has at x i (suc s) zero h o = rw (add-zero i) (o _ (Memᴰ.head refl))
  step_has at x i (suc s) (suc j) h o =
      subst (λ (e : ℕ). P (call_of F (at e) (chain w at y (suc i) j).result)) (suc-add i j ∙ sym (add-suc i j))
      (step_has at y (suc i) s j (omega arith) (λ c m. o c (Memᴰ.tail m)))
    where
      y : Bytes
      y = w.hash F (address (at i)) x

  module _ (l t p : ℕ) (sk : Bytes) where
    -- Chain c: its secret value, and its steps.
    abbrev ChainHas : ℕ → Type 0
    ChainHas c =
        P (call_of PRF (chain_secret l t p c) sk)
        × Owns P (chain w (chain_step l t p c) (w.hash PRF (address (chain_secret l t p c)) sk) 0 15)

    chain_has : (c count j : ℕ) → j < count → Owns P (ends w l t p sk c count) → ChainHas (c + j)
    unfolding ends
    chain_has c zero j h o = absurd (omega arith)
    chain_has c (suc count) zero h o =
        subst ChainHas (sym (add-zero c))
        (o _ (Memᴰ.head refl), λ x m. o x (Memᴰ.tail (Memᴰ.append_left _ m)))
    chain_has c (suc count) (suc j) h o =
        subst ChainHas (suc-add c j ∙ sym (add-suc c j))
        (chain_has (suc c) count j (omega arith)
        (λ x m. o x (Memᴰ.tail (Memᴰ.append_right own (Memᴰ.append_left [] m)))))
      where
        own : List Call
        own = (chain w (chain_step l t p c) (w.hash PRF (address (chain_secret l t p c)) sk) 0 15).calls

  -- A node, from its parent down.
  child_has : (tree : Tree) (z i : ℕ) → Owns P (node w tree (suc z) (i / 2)) → Owns P (node w tree z i)
  unfolding node
  child_has tree z i o = by_side (i % 2) refl (mod-lt i (zero-lt-suc 1))
    where
      by_side : (b : ℕ) → i % 2 ≡ b → b < 2 → Owns P (node w tree z i)
      by_side zero e hb =
          let even : 2 * (i / 2) ≡ i = omega arith in
          subst (λ (y : ℕ). Owns P (node w tree z y)) even (λ c q. o c (Memᴰ.append_left _ q))
      by_side (suc b) e hb =
          let odd : 2 * (i / 2) + 1 ≡ i = omega arith in
          subst (λ (y : ℕ). Owns P (node w tree z y)) odd
          (λ c q. o c (Memᴰ.append_right (node w tree z (2 * (i / 2))).calls (Memᴰ.append_left _ q)))

  -- A node, where k heights above it there are m nodes.
  node_has : (tree : Tree) (m k z i : ℕ) → ((j : ℕ) → j < m → Owns P (node w tree (k + z) j)) → i < m * 2 ^ k
      → Owns P (node w tree z i)
  node_has tree m zero z i tops h =
      subst (λ (y : ℕ). Owns P (node w tree y i)) (zero-add z) (tops i (omega arith))
  node_has tree m (suc k) z i tops h =
      child_has tree z i (node_has tree m k (suc z) (i / 2)
      (λ j hj. subst (λ (y : ℕ). Owns P (node w tree y j)) (suc-add k z ∙ sym (add-suc k z)) (tops j hj)) half)
    where
      half : i / 2 < m * 2 ^ k
      half = omega (arith, rw (pow-suc 2 k) at h)

  -- The call that makes a node.
  last_has : (tree : Tree) (z i : ℕ) → Owns P (node w tree (suc z) i)
      → P (call_of H (tree.place (suc z) i) ((node w tree z (2 * i)).result ++ (node w tree z (2 * i + 1)).result))
  unfolding node
  last_has tree z i o =
      o _ (Memᴰ.append_right (node w tree z (2 * i)).calls
      (Memᴰ.append_right (node w tree z (2 * i + 1)).calls (Memᴰ.head refl)))

  -- Root j of a forest's.
  root_has : (t p a : ℕ) (sk : Bytes) (q count j : ℕ) → j < count → Owns P (roots w t p a sk q count)
      → Owns P (node w (forest_tree w t p sk) a (q + j))
  unfolding roots
  root_has t p a sk q zero j h o = absurd (omega arith)
  root_has t p a sk q (suc count) zero h o =
      subst (λ (y : ℕ). Owns P (node w (forest_tree w t p sk) a y)) (sym (add-zero q))
      (λ c m. o c (Memᴰ.append_left _ m))
  root_has t p a sk q (suc count) (suc j) h o =
      subst (λ (y : ℕ). Owns P (node w (forest_tree w t p sk) a y)) (suc-add q j ∙ sym (add-suc q j))
      (root_has t p a sk (suc q) count j (omega arith)
      (λ c m. o c (Memᴰ.append_right (node w (forest_tree w t p sk) a q).calls (Memᴰ.append_left [] m))))

-- ---- The own calls of a row's key

module _ (r : Row) (f : Family r.n r.m) (sk pk : Bytes) where
  abbrev w : Hashes
  w = under f pk

  abbrev Own : Call → Type 0
  Own c = OwnCall r f sk pk c

  module _ (l t : ℕ) (h : LegalTree r l t) where
    -- The nodes of the tree, its leaves, their chains' ends and their chains.
    node_own : (z i : ℕ) → z ≤ r.h' → i < 2 ^ (r.h' - z) → Owns Own (node w (layer_tree w sk l t) z i)
    unfolding own_root
    node_own z i hz hi =
        node_has w Own (layer_tree w sk l t) 1 (r.h' - z) z i
        (λ j hj. subst₂ (λ (y e : ℕ). Owns Own (node w (layer_tree w sk l t) y e)) (omega arith) (omega arith)
        (λ c m. of_tree l t h.layer_lt h.tree_lt m)) (omega arith)

    leaf_own : (p : ℕ) → p < 2 ^ r.h' → Owns Own (leaf w l t p sk)
    unfolding node
    leaf_own p hp = node_own 0 p (omega arith) (rw (sub-zero r.h') hp)

    ends_own : (p : ℕ) → p < 2 ^ r.h' → Owns Own (ends w l t p sk 0 (chains r.n))
    unfolding leaf
    ends_own p hp c m = leaf_own p hp c (Memᴰ.append_left _ m)

    chain_own : (p : ℕ) → p < 2 ^ r.h' → (c : ℕ) → c < chains r.n → ChainHas w Own l t p sk c
    chain_own p hp c hc =
        subst (ChainHas w Own l t p sk) (zero-add c)
        (chain_has w Own l t p sk 0 (chains r.n) c hc (ends_own p hp))

  module _ (t p : ℕ) (h : LegalForest r t p) where
    -- The roots of the forest, its nodes and its leaves.
    roots_own : Owns Own (roots w t p r.a sk 0 r.k)
    unfolding own_forest
    roots_own c m = of_forest t p h.tree_lt h.pair_lt (Memᴰ.append_left _ m)

    forest_node_own : (z i : ℕ) → z ≤ r.a → i < r.k * 2 ^ (r.a - z) → Owns Own (node w (forest_tree w t p sk) z i)
    forest_node_own z i hz hi =
        node_has w Own (forest_tree w t p sk) r.k (r.a - z) z i
        (λ j hj. subst₂ (λ (y e : ℕ). Owns Own (node w (forest_tree w t p sk) y e)) (omega arith) (zero-add j)
        (root_has w Own t p r.a sk 0 r.k j hj roots_own)) hi

    forest_leaf_own : (i : ℕ) → i < r.k * 2 ^ r.a → Owns Own (forest_leaf w t p sk i)
    unfolding node
    forest_leaf_own i hi = forest_node_own 0 i (omega arith) (rw (sub-zero r.a) hi)

  -- The own call at a legal place is one of the key's own.
  pub legal_own : (p : Place) → LegalPlace r p → Own (own_at w r.a r.k sk p)
  unfolding input_at own_chain leaf forest_leaf own_forest
  legal_own (chain_step l t p c s) h =
      subst (λ (y : ℕ). Own (call_of F (chain_step l t p c y) (own_chain w l t p sk c s))) (zero-add s)
      (step_has w Own (chain_step l t p c) _ 0 15 s h.2
      (chain_own l t h.0.of_tree p h.0.pair_lt c h.1).1)
  legal_own (chain_ends l t p) h =
      leaf_own l t h.of_tree p h.pair_lt _
      (Memᴰ.append_right (ends w l t p sk 0 (chains r.n)).calls (Memᴰ.head refl))
  legal_own (tree_node l t zero i) h = absurd (omega (arith, h.1))
  legal_own (tree_node l t (suc z) i) h =
      last_has w Own (layer_tree w sk l t) z i (node_own l t h.0 (suc z) i h.2 h.3)
  legal_own (forest_node t p zero i) h =
      forest_leaf_own t p h.0 i (rw (sub-zero r.a) at h.2) _ (Memᴰ.tail (Memᴰ.head refl))
  legal_own (forest_node t p (suc z) i) h =
      last_has w Own (forest_tree w t p sk) z i (forest_node_own t p h.0 (suc z) i h.1 h.2)
  legal_own (forest_roots t p) h =
      of_forest t p h.tree_lt h.pair_lt
      (Memᴰ.append_right (roots w t p r.a sk 0 r.k).calls (Memᴰ.head refl))
  legal_own (chain_secret l t p c) h = (chain_own l t h.0.of_tree p h.0.pair_lt c h.1).0
  legal_own (forest_secret t p i) h = forest_leaf_own t p h.0 i h.1 _ (Memᴰ.head refl)

  -- The key's own calls are exactly those at legal places.
  pub own_exactly : (c : Call) → Own c ↔ Placed r w sk c
  own_exactly c = (
    own_placed r f sk pk c,
    λ q. subst Own (sym q.is_call) (legal_own q.place q.place_legal),
  )
