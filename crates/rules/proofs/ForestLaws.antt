-- The laws of the forest: what the rules write leads to the own roots.
-- Assumes nothing.
use mathlib.Core.Path.{◌≡◌, refl, sym, ap, ◌∙◌}
use mathlib.Core.List.{List, [], ◌∷◌, ◌++◌}
use Prim.Native.Nat.{ℕ, suc, ◌+◌, ◌*◌, ◌^◌}
use native.Mathlib.Nat.{zero-mul, suc-mul}
use native.Mathlib.Omega.{arith}
use lib.ListN.{length, drop, length-append}
use lib.Pow.{high}
use lib.Seq.{take_at, drop_at, drop-drop}
use Rattle.lists.specs.Below.{Below}
use Rattle.rules.specs.Places.{Bytes, IsBytes, forest_node, forest_secret, address}
use Rattle.rules.specs.Calls.{F, T, PRF, Hashes}
use Rattle.rules.specs.Trees.{node, path}
use Rattle.rules.specs.Forest.{tree_bytes, forest_bytes, forest_leaf, forest_tree, roots, own_forest, forest_seal}
use Rattle.rules.specs.Forest.{forest_walk, forest_root}
use Rattle.rules.proofs.TreeLaws.{length-path, leaf_climbs}

module _ (w : Hashes) (t p a : ℕ) where
  pub forest_root_sized : (xs : List ℕ) (sig : Bytes) → IsBytes w.n (forest_root w t p a xs sig).result
  unfolding forest_root
  forest_root_sized xs sig = w.sized T _ _

  pub own_forest_sized : (sk : Bytes) (k : ℕ) → IsBytes w.n (own_forest w t p a sk k).result
  unfolding own_forest
  own_forest_sized sk k = w.sized T _ _

-- After the secret value comes the path, and after both the next tree.
pub next_tree : (n a : ℕ) (sig : Bytes) → drop (a * n) (drop n sig) ≡ drop (tree_bytes n a) sig
unfolding tree_bytes
next_tree n a sig = drop-drop (a * n) n sig

module _ (w : Hashes) (sk : Bytes) (t p a : ℕ) where
  -- The secret value of leaf i, the root of tree j, and the path of leaf i.
  abbrev pub secret_of : ℕ → Bytes
  secret_of i = w.hash PRF (address (forest_secret t p i)) sk

  abbrev pub root_of : ℕ → Bytes
  root_of j = (node w (forest_tree w t p sk) a j).result

  abbrev path_of : ℕ → Bytes
  path_of i = (path w (forest_tree w t p sk) a 0 i).result

  pub leaf_sized : (i : ℕ) → IsBytes w.n (forest_leaf w t p sk i).result
  unfolding forest_leaf
  leaf_sized i = w.sized F _ _

  pub leaf_is : (i : ℕ) → (forest_leaf w t p sk i).result ≡ w.hash F (address (forest_node t p 0 i)) (secret_of i)
  unfolding forest_leaf
  leaf_is i = refl

  secret_long : (i : ℕ) → length (secret_of i) ≡ w.n
  secret_long i = (w.sized PRF (address (forest_secret t p i)) sk).long

  path_long : (i : ℕ) → length (path_of i) ≡ a * w.n
  path_long i = length-path w (forest_tree w t p sk) leaf_sized a 0 i

  pub roots_suc : (j k : ℕ) → (roots w t p a sk j (suc k)).result ≡ root_of j ++ (roots w t p a sk (suc j) k).result
  unfolding roots
  roots_suc j k = refl

  pub seal_nil : (j : ℕ) → (forest_seal w t p a sk j []).result ≡ []
  unfolding forest_seal
  seal_nil j = refl

  pub seal_cons : (j x : ℕ) (xs : List ℕ) → (forest_seal w t p a sk j (x ∷ xs)).result
      ≡ secret_of (j * 2 ^ a + x) ++ (path_of (j * 2 ^ a + x) ++ (forest_seal w t p a sk (suc j) xs).result)
  unfolding forest_seal
  seal_cons j x xs = refl

  pub forest_seal_long : (j : ℕ) (xs : List ℕ)
      → length (forest_seal w t p a sk j xs).result ≡ forest_bytes w.n a (length xs)
  unfolding forest_bytes tree_bytes
  forest_seal_long j [] = ap length (seal_nil j) ∙ sym (zero-mul (w.n + a * w.n))
  forest_seal_long j (x ∷ xs) =
      ap length (seal_cons j x xs)
      ∙ simp length-append (omega (
        arith,
        secret_long (j * 2 ^ a + x),
        path_long (j * 2 ^ a + x),
        forest_seal_long (suc j) xs,
        suc-mul (length xs) (w.n + a * w.n),
      ))

  -- Acceptance: from each leaf along its own path one comes to the root of its tree.
  walk_seal : (j : ℕ) (xs : List ℕ) → Below (2 ^ a) xs
      → (forest_walk w t p a j xs (forest_seal w t p a sk j xs).result).result ≡ (roots w t p a sk j (length xs)).result
  unfolding forest_walk roots
  walk_seal j [] b = refl
  walk_seal j (x ∷ xs) b =
      rw (
        ← next_tree w.n a (forest_seal w t p a sk j (x ∷ xs)).result,
        seal_cons j x xs,
        take_at (secret_of i) (path_of i ++ rest) w.n (secret_long i),
        drop_at (secret_of i) (path_of i ++ rest) w.n (secret_long i),
        take_at (path_of i) rest (a * w.n) (path_long i),
        drop_at (path_of i) rest (a * w.n) (path_long i),
        ← leaf_is i,
        leaf_climbs w (forest_tree w t p sk) leaf_sized a i j (high j a (b 0)),
        walk_seal (suc j) xs (λ y. b (suc y)),
      )
      (sym (roots_suc j (length xs)))
    where
      i : ℕ
      i = j * 2 ^ a + x

      rest : Bytes
      rest = (forest_seal w t p a sk (suc j) xs).result

  pub forest_accepts : (k : ℕ) (xs : List ℕ) → Below (2 ^ a) xs → length xs ≡ k
      → (forest_root w t p a xs (forest_seal w t p a sk 0 xs).result).result ≡ (own_forest w t p a sk k).result
  unfolding forest_root own_forest
  forest_accepts k xs b l = rw (walk_seal 0 xs b, l)
