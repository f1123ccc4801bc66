-- A forest that leads to the key's own is what the rules write, or two calls collide: T first, then the trees from the
-- first on, each from its root down to its leaf's F.
-- Assumes nothing.
use mathlib.Core.Path.{◌≡◌, refl, sym, ap, ap₂, ◌∙◌}
use mathlib.Core.Logic.{◌⊎◌, inl}
use mathlib.Core.List.Memᴰ
use mathlib.Core.List.{List, [], ◌∷◌, ◌++◌}
use Prim.Native.Nat.{ℕ, suc, ◌+◌, ◌*◌, ◌^◌}
use native.Mathlib.Nat.{zero-mul, suc-mul}
use native.Mathlib.Omega.{arith}
use lib.ListN.{length, take, drop, length-drop, take-append-drop}
use lib.Pow.{high}
use lib.Seq.{length-take-le}
use Rattle.lists.proofs.Parts.{append_inj, nil_of_length}
use Rattle.lists.specs.Below.{Below}
use Rattle.rules.specs.Places.{Bytes, forest_node, forest_roots, address}
use Rattle.rules.specs.Calls.{F, T, Hashes, Run, Call, call_of}
use Rattle.rules.specs.Trees.{node, climb}
use Rattle.rules.specs.Forest.{tree_bytes, forest_bytes, forest_leaf, forest_tree, roots, own_forest, forest_seal}
use Rattle.rules.specs.Forest.{forest_walk, forest_root}
use Rattle.findings.specs.Findings.{Collision, an_f, a_t}
use Rattle.rules.proofs.ForestLaws.{next_tree, secret_of, root_of, leaf_sized, leaf_is, roots_suc, seal_nil, seal_cons}
use Rattle.findings.proofs.FindingLaws.{Owns, before, after, same_input, then, found}
use Rattle.rules.proofs.TreeLaws.{climb_sized, node_sized}
use Rattle.findings.proofs.TreeFindings.{leaf_climb_shows, owns_leaf}

module _ (w : Hashes) (sk : Bytes) (t p a : ℕ) where
  module _ (Own : Call → Type 0) where
    owns_first : (j k : ℕ) → Owns Own (roots w t p a sk j (suc k)) → Owns Own (node w (forest_tree w t p sk) a j)
    unfolding roots
    owns_first j k o c m = o c (Memᴰ.append_left _ m)

    owns_rest : (j k : ℕ) → Owns Own (roots w t p a sk j (suc k)) → Owns Own (roots w t p a sk (suc j) k)
    unfolding roots
    owns_rest j k o c m =
        o c (Memᴰ.append_right (node w (forest_tree w t p sk) a j).calls (Memᴰ.append_left [] m))

    own_leaf_call : (i : ℕ) → Owns Own (forest_leaf w t p sk i)
        → Own (call_of F (forest_node t p 0 i) (secret_of w sk t p a i))
    unfolding forest_leaf
    own_leaf_call i o = o _ (Memᴰ.tail (Memᴰ.head refl))

    -- Trees are looked at from the first on, each from its root down to the leaf's F.
    forest_walk_shows : (j : ℕ) (xs : List ℕ) (sig : Bytes) → Below (2 ^ a) xs
        → Owns Own (roots w t p a sk j (length xs)) → length sig ≡ length xs * tree_bytes w.n a
        → (forest_walk w t p a j xs sig).result ≡ (roots w t p a sk j (length xs)).result
        → (sig ≡ (forest_seal w t p a sk j xs).result) ⊎ Collision w Own (forest_walk w t p a j xs sig).calls
    unfolding forest_walk tree_bytes
    forest_walk_shows j [] sig b o long e =
        inl (nil_of_length sig (long ∙ zero-mul (w.n + a * w.n)) ∙ sym (seal_nil w sk t p a j))
    forest_walk_shows j (x ∷ xs) sig b o long e =
        then (found (λ c. after (call_of F (forest_node t p 0 i) s ∷ []) (before (rest.calls ++ []) c))
        (leaf_climb_shows w (forest_tree w t p sk) (leaf_sized w sk t p a) Own a i j v auth (high j a (b 0)) own_tree
        (w.sized F (address (forest_node t p 0 i)) s).long auth_long both.0)) (λ u.
        then (found (before (climb_run.calls ++ (rest.calls ++ [])))
        (same_input w Own an_f (forest_node t p 0 i) s (secret_of w sk t p a i)
        (own_leaf_call i (owns_leaf w (forest_tree w t p sk) Own a i j (high j a (b 0)) own_tree))
        (u.0 ∙ leaf_is w sk t p a i))) (λ q.
        then (found (λ c. after (call_of F (forest_node t p 0 i) s ∷ []) (after climb_run.calls (before [] c)))
        (forest_walk_shows (suc j) xs (drop (tree_bytes w.n a) sig) (λ y. b (suc y)) (owns_rest j (length xs) o)
        (simp length-drop (omega (arith, long, suc-mul (length xs) (w.n + a * w.n)))) both.1)) (λ y.
        inl (sym (take-append-drop w.n sig) ∙ ap₂ ◌++◌ q (sym (take-append-drop (a * w.n) (drop w.n sig))
        ∙ ap₂ ◌++◌ u.1 (next_tree w.n a sig ∙ y)) ∙ sym (seal_cons w sk t p a j x xs)))))
      where
        i : ℕ
        i = j * 2 ^ a + x

        s : Bytes
        s = take w.n sig

        auth : Bytes
        auth = take (a * w.n) (drop w.n sig)

        v : Bytes
        v = w.hash F (address (forest_node t p 0 i)) s

        climb_run : Run Bytes
        climb_run = climb w (forest_node t p) a 0 i v auth

        rest : Run Bytes
        rest = forest_walk w t p a (suc j) xs (drop (tree_bytes w.n a) sig)

        own_tree : Owns Own (node w (forest_tree w t p sk) a j)
        own_tree = owns_first j (length xs) o

        auth_long : length auth ≡ a * w.n
        auth_long =
            length-take-le (a * w.n) (drop w.n sig)
            (simp length-drop (omega (arith, long, suc-mul (length xs) (w.n + a * w.n))))

        both : (climb_run.result ≡ root_of w sk t p a j) × (rest.result ≡ (roots w t p a sk (suc j) (length xs)).result)
        both =
            append_inj
            (climb_sized w (forest_node t p) a 0 i v auth (w.sized F (address (forest_node t p 0 i)) s)).long
            (node_sized w (forest_tree w t p sk) (leaf_sized w sk t p a) a j).long
            (e ∙ roots_suc w sk t p a j (length xs))

    owns_roots : (k : ℕ) → Owns Own (own_forest w t p a sk k) → Owns Own (roots w t p a sk 0 k)
    unfolding own_forest
    owns_roots k o c m = o c (Memᴰ.append_left _ m)

    own_compress : (k : ℕ) → Owns Own (own_forest w t p a sk k)
        → Own (call_of T (forest_roots t p) (roots w t p a sk 0 k).result)
    unfolding own_forest
    own_compress k o = o _ (Memᴰ.append_right (roots w t p a sk 0 k).calls (Memᴰ.head refl))

    -- T first, then the trees.
    pub forest_shows : (k : ℕ) (xs : List ℕ) (sig : Bytes) → Below (2 ^ a) xs → length xs ≡ k
        → Owns Own (own_forest w t p a sk k) → length sig ≡ forest_bytes w.n a k
        → (forest_root w t p a xs sig).result ≡ (own_forest w t p a sk k).result
        → (sig ≡ (forest_seal w t p a sk 0 xs).result) ⊎ Collision w Own (forest_root w t p a xs sig).calls
    unfolding forest_root own_forest forest_bytes
    forest_shows k xs sig b l o long e =
        then (found (after run.calls)
        (same_input w Own a_t (forest_roots t p) run.result _ (own_compress k o) e)) (λ q.
        found (before (call_of T (forest_roots t p) run.result ∷ []))
        (forest_walk_shows 0 xs sig b (rw l (owns_roots k o)) (long ∙ ap (λ (y : ℕ). y * tree_bytes w.n a) (sym l))
        (q ∙ ap (λ (y : ℕ). (roots w t p a sk 0 y).result) (sym l))))
      where
        run : Run Bytes
        run = forest_walk w t p a 0 xs sig
