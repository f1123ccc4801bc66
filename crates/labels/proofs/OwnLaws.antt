-- Every call that the rules make from the seeds is the key's own call at a legal place: by recursion on chains, nodes
-- and roots, with the calls of a run joined from those of its steps.
-- Assumes nothing.
use mathlib.Core.Path.{◌≡◌, refl, sym, ap, ◌∙◌, subst}
use mathlib.Core.Logic.{◌⊎◌, inl, inr}
use mathlib.Core.List.Memᴰ
use mathlib.Core.List.{List, [], ◌∷◌, ◌++◌, Memᴰ}
use Prim.Native.Nat.{ℕ, zero, suc, ◌+◌, ◌-◌, ◌*◌, ◌^◌, ◌≤◌, ◌<◌}
use native.Mathlib.Nat.{zero-add, sub-zero, sub_self, pow-suc}
use native.Mathlib.Numerals.{add-one}
use native.Mathlib.Omega.{arith}
use Rattle.rules.specs.Places.{Bytes, Place, chain_step, chain_ends, tree_node, forest_node, forest_roots, chain_secret}
use Rattle.rules.specs.Places.{forest_secret, address}
use Rattle.rules.specs.Calls.{F, H, PRF, Call, call_of, Family, Hashes, under}
use Rattle.rules.specs.Chains.{chains, chain, ends, leaf, own_chain}
use Rattle.rules.specs.Trees.{Tree, node}
use Rattle.rules.specs.Layers.{layer_tree, own_root}
use Rattle.rules.specs.Forest.{forest_leaf, forest_tree, roots, own_forest}
use Rattle.rules.specs.Sets.{Row}
use Rattle.rules.proofs.ChainLaws.{chain_add}
use Rattle.rules.proofs.TreeLaws.{pair}
use Rattle.findings.specs.Findings.{OwnCall, of_tree, of_forest}
use Rattle.labels.specs.Labels.{LegalTree, LegalLeaf, LegalForest, LegalPlace, input_at, own_at, Placed}

-- ---- What holds of every call of a list

-- Every call of the list has P: no call, one more call, two lists joined.
abbrev All : (P : Call → Type 0) → List Call → Type 0
All P l = (c : Call) → Memᴰ c l → P c

none_made : (P : Call → Type 0) → All P []
none_made P c m = absurd (Memᴰ.not-nil m)

module _ {P : Call → Type 0} where
  and_then : {x : Call} {l : List Call} → P x → All P l → All P (x ∷ l)
  and_then {x} {l} h rest c m = by_cases (Memᴰ.cases_cons m)
    where
      by_cases : (c ≡ x) ⊎ Memᴰ c l → P c
      by_cases (inl e) = subst P (sym e) h
      by_cases (inr q) = rest c q

  joined : (s : List Call) {t : List Call} → All P s → All P t → All P (s ++ t)
  joined s {t} hs ht c m = by_cases (Memᴰ.append_cases s m)
    where
      by_cases : Memᴰ c s ⊎ Memᴰ c t → P c
      by_cases (inl q) = hs c q
      by_cases (inr q) = ht c q

  -- The calls of a node, where at each height there are twice as many nodes as above.
  module _ (w : Hashes) (tree : Tree) (top : ℕ) (many : ℕ → ℕ)
      (twice : (z : ℕ) → suc z ≤ top → many z ≡ 2 * many (suc z))
      (leaves : (i : ℕ) → i < many 0 → All P (tree.leaf i).calls)
      (nodes : (z i : ℕ) → suc z ≤ top → i < many (suc z)
      → P (call_of H (tree.place (suc z) i) (pair w tree z i))) where
    node_made : (z i : ℕ) → z ≤ top → i < many z → All P (node w tree z i).calls
    unfolding node
    node_made zero i hz hi = leaves i hi
    node_made (suc z) i hz hi =
        joined (node w tree z (2 * i)).calls (node_made z (2 * i) (omega arith) (omega (arith, twice z hz)))
        (joined (node w tree z (2 * i + 1)).calls
        (node_made z (2 * i + 1) (omega arith) (omega (arith, twice z hz)))
        (and_then (nodes z i hz hi) (none_made P)))

-- ---- The calls of a row's key

-- One height down there are twice as many.
twice_many : (k top z : ℕ) → suc z ≤ top → k * 2 ^ (top - z) ≡ 2 * (k * 2 ^ (top - suc z))
twice_many k top z h =
    let e : top - z ≡ suc (top - suc z) = omega arith in
    rw (e, pow-suc 2 (top - suc z)) (omega arith)

module _ (r : Row) (w : Hashes) (same-n : w.n ≡ r.n) (sk : Bytes) where
  abbrev Good : Call → Type 0
  Good c = Placed r w sk c

  at_place : (p : Place) → LegalPlace r p → Good (own_at w r.a r.k sk p)
  at_place p h = record { place = p; place_legal = h; is_call = refl }

  -- ---- A leaf of a layer's tree

  module _ (l t p : ℕ) (h : LegalLeaf r l t p) where
    -- One step on from the own value is the next own value.
    own_next : (c s : ℕ)
        → w.hash F (address (chain_step l t p c s)) (own_chain w l t p sk c s) ≡ own_chain w l t p sk c (suc s)
    unfolding own_chain chain
    own_next c s =
        let secret : Bytes = w.hash PRF (address (chain_secret l t p c)) sk in
        sym (ap (λ (j : ℕ). (chain w (chain_step l t p c) secret 0 j).result) (sym (add-one s))
        ∙ chain_add w (chain_step l t p c) secret 0 s 1
        ∙ ap (λ (j : ℕ). w.hash F (address (chain_step l t p c j)) (chain w (chain_step l t p c) secret 0 s).result)
        (zero-add s))

    -- A chain, from its own value at step i on.
    chain_made : (c : ℕ) → c < chains r.n → (x : Bytes) (i s : ℕ) → i + s ≤ 15 → x ≡ own_chain w l t p sk c i
        → All Good (chain w (chain_step l t p c) x i s).calls
    unfolding chain input_at
    chain_made c hc x i zero b e = none_made Good
    chain_made c hc x i (suc s) b e =
        and_then
        (subst (λ (y : Bytes). Good (call_of F (chain_step l t p c i) y)) (sym e)
        (at_place (chain_step l t p c i) (h, hc, omega arith)))
        (chain_made c hc (w.hash F (address (chain_step l t p c i)) x) (suc i) s (omega arith)
        (ap (w.hash F (address (chain_step l t p c i))) e ∙ own_next c i))

    -- The chains from chain c on, and the leaf over all of them.
    ends_made : (c count : ℕ) → c + count ≤ chains r.n → All Good (ends w l t p sk c count).calls
    unfolding ends input_at own_chain chain
    ends_made c zero b = none_made Good
    ends_made c (suc count) b =
        and_then (at_place (chain_secret l t p c) (h, omega arith))
        (joined (chain w (chain_step l t p c) (w.hash PRF (address (chain_secret l t p c)) sk) 0 15).calls
        (chain_made c (omega arith) _ 0 15 (omega arith) refl)
        (joined (ends w l t p sk (suc c) count).calls (ends_made (suc c) count (omega arith)) (none_made Good)))

    leaf_made : All Good (leaf w l t p sk).calls
    unfolding leaf input_at
    leaf_made =
        joined (ends w l t p sk 0 (chains w.n)).calls (ends_made 0 (chains w.n) (omega (arith, same-n)))
        (and_then (at_place (chain_ends l t p) h) (none_made Good))

  -- ---- A tree of a layer

  root_made : (l t : ℕ) → LegalTree r l t → All Good (own_root w r.h' sk l t).calls
  unfolding own_root input_at
  root_made l t h =
      node_made w (layer_tree w sk l t) r.h' (λ z. 2 ^ (r.h' - z)) twice
      (λ i hi. leaf_made l t i (record { of_tree = h; pair_lt = rw (sub-zero r.h') at hi }))
      (λ z i hz hi. at_place (tree_node l t (suc z) i) (h, omega arith, hz, hi))
      r.h' 0 (omega arith) (rw (sub_self r.h') (omega arith))
    where
      twice : (z : ℕ) → suc z ≤ r.h' → 2 ^ (r.h' - z) ≡ 2 * 2 ^ (r.h' - suc z)
      twice z hz = omega (arith, twice_many 1 r.h' z hz)

  -- ---- A forest

  module _ (t p : ℕ) (h : LegalForest r t p) where
    -- A leaf, and a tree of the forest.
    forest_leaf_made : (i : ℕ) → i < r.k * 2 ^ (r.a - 0) → All Good (forest_leaf w t p sk i).calls
    unfolding forest_leaf input_at
    forest_leaf_made i hi =
        and_then (at_place (forest_secret t p i) (h, rw (sub-zero r.a) at hi))
        (and_then (at_place (forest_node t p 0 i) (h, omega arith, hi)) (none_made Good))

    forest_node_made : (j : ℕ) → j < r.k → All Good (node w (forest_tree w t p sk) r.a j).calls
    unfolding input_at
    forest_node_made j hj =
        node_made w (forest_tree w t p sk) r.a (λ z. r.k * 2 ^ (r.a - z)) (λ z hz. twice_many r.k r.a z hz)
        forest_leaf_made
        (λ z i hz hi. at_place (forest_node t p (suc z) i) (h, hz, hi))
        r.a j (omega arith) (rw (sub_self r.a) (omega arith))

    -- The trees from tree j on, and what is made over all roots.
    roots_made : (j count : ℕ) → j + count ≤ r.k → All Good (roots w t p r.a sk j count).calls
    unfolding roots
    roots_made j zero b = none_made Good
    roots_made j (suc count) b =
        joined (node w (forest_tree w t p sk) r.a j).calls (forest_node_made j (omega arith))
        (joined (roots w t p r.a sk (suc j) count).calls (roots_made (suc j) count (omega arith)) (none_made Good))

    forest_made : All Good (own_forest w t p r.a sk r.k).calls
    unfolding own_forest input_at
    forest_made =
        joined (roots w t p r.a sk 0 r.k).calls (roots_made 0 r.k (omega arith))
        (and_then (at_place (forest_roots t p) h) (none_made Good))

-- Every call of the key's own is the one at a legal place.
pub own_placed : (r : Row) (f : Family r.n r.m) (sk_seed pk_seed : Bytes) (c : Call)
    → OwnCall r f sk_seed pk_seed c → Placed r (under f pk_seed) sk_seed c
own_placed r f sk pk c (of_tree l t hl ht m) =
    root_made r (under f pk) refl sk l t (record { layer_lt = hl; tree_lt = ht }) c m
own_placed r f sk pk c (of_forest t p ht hp m) =
    forest_made r (under f pk) refl sk t p (record { tree_lt = ht; pair_lt = hp }) c m
