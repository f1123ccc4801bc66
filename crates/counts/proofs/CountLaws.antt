-- How many calls of each kind a check makes: each walk's count is the sum of its parts' counts, whatever the bytes.
-- Assumes nothing.
use mathlib.Core.Path.{◌≡◌, sym, ap, ap₂, ◌∙◌}
use mathlib.Core.List.{List, [], ◌∷◌, ◌++◌}
use Prim.Native.Nat.{ℕ, zero, suc, ◌+◌, ◌-◌, ◌*◌, ◌/◌, ◌%◌, ◌^◌}
use native.Mathlib.Nat.{zero-mul, add-mul, add-zero}
use native.Mathlib.Omega.{arith}
use lib.ListN.{length, take, drop}
use Rattle.rules.specs.Places.{Bytes, Place, address, chain_step, chain_ends, tree_node, forest_node, forest_roots}
use Rattle.rules.specs.Calls.{Function, F, H, T, PRF, Kind, of, randomizer, digest, Call, call_of, Family, Hashes}
use Rattle.rules.specs.Calls.{under, Run}
use Rattle.rules.specs.Chains.{steps, chain_digits, chain, walk, leaf_from}
use Rattle.rules.specs.Trees.{join, climb}
use Rattle.rules.specs.Layers.{chain_bytes, layer_root, layers_root}
use Rattle.rules.specs.Forest.{tree_bytes, forest_walk, forest_root}
use Rattle.rules.specs.Sets.{Row, Legal}
use Rattle.rules.specs.Digest.{Pointed, pointed}
use Rattle.rules.specs.Keys.{piece}
use Rattle.rules.specs.Seal.{digest_of, part}
use Rattle.rules.specs.Check.{root_at, checked_root, checked_value}
use Rattle.counts.specs.Counts.{is, count, steps_of, f_calls}
use Rattle.rules.proofs.DigestLaws.{Inside, points_inside}
use Rattle.rules.proofs.CheckLaws.{tree_of, leaf_of, forest_run, layer_run, layers_run, root_run, next_run}

pub count_append : (k : Kind) (s t : List Call) → count k (s ++ t) ≡ count k s + count k t
unfolding count
count_append k [] t = omega arith
count_append k (c ∷ s) t = let r = count_append k s t in omega arith

module _ (w : Hashes) (k : Kind) where
  -- Of two runs one after the other, and of one call.
  both : {A B : Type 0} (a : Run A) (b : Run B) (x y : ℕ) → count k a.calls ≡ x → count k b.calls ≡ y
      → count k (a.calls ++ b.calls) ≡ x + y
  both a b x y p q = count_append k a.calls b.calls ∙ ap₂ ◌+◌ p q

  ended : {A : Type 0} (a : Run A) (x : ℕ) → count k a.calls ≡ x → count k (a.calls ++ []) ≡ x
  unfolding count
  ended a x p = count_append k a.calls [] ∙ add-zero _ ∙ p

  one : (g : Function) (p : Place) (x : Bytes) → count k (call_of g p x ∷ []) ≡ is k (of g)
  unfolding count
  one g p x = add-zero (is k (of g))

  pub chain_count : (at : ℕ → Place) (x : Bytes) (i s : ℕ) → count k (chain w at x i s).calls ≡ s * is k (of F)
  unfolding chain count
  chain_count at x i zero = sym (zero-mul (is k (of F)))
  chain_count at x i (suc s) = let r = chain_count at (w.hash F (address (at i)) x) (suc i) s in omega (arith, r)

  pub climb_count : (place : ℕ → ℕ → Place) (m z i : ℕ) (v auth : Bytes)
      → count k (climb w place m z i v auth).calls ≡ m * is k (of H)
  unfolding climb count
  climb_count place zero z i v auth = sym (zero-mul (is k (of H)))
  climb_count place (suc m) z i v auth =
      let u : Bytes = w.hash H (address (place (suc z) (i / 2))) (join (i % 2) v (take w.n auth)) in
      let r = climb_count place m (suc z) (i / 2) u (drop w.n auth) in
      omega (arith, r)

  pub walk_count : (l t p c : ℕ) (ds : List ℕ) (sig : Bytes)
      → count k (walk w l t p c ds sig).calls ≡ steps ds * is k (of F)
  unfolding walk count steps
  walk_count l t p c [] sig = sym (zero-mul (is k (of F)))
  walk_count l t p c (d ∷ ds) sig =
      count_append k (chain w (chain_step l t p c) (take w.n sig) d (15 - d)).calls _
      ∙ ap₂ ◌+◌ (chain_count (chain_step l t p c) (take w.n sig) d (15 - d))
      (ended (walk w l t p (suc c) ds (drop w.n sig)) _ (walk_count l t p (suc c) ds (drop w.n sig)))
      ∙ sym (add-mul (15 - d) (steps ds) (is k (of F)))

  pub leaf_count : (l t i : ℕ) (sig M : Bytes)
      → count k (leaf_from w l t i sig M).calls ≡ steps (chain_digits w.n M) * is k (of F) + is k (of T)
  unfolding leaf_from
  leaf_count l t i sig M =
      count_append k (walk w l t i 0 (chain_digits w.n M) sig).calls _
      ∙ ap₂ ◌+◌ (walk_count l t i 0 (chain_digits w.n M) sig) (one T (chain_ends l t i) _)

  pub layer_count : (h' l t i : ℕ) (sig M : Bytes) → count k (layer_root w h' l t i sig M).calls
      ≡ steps (chain_digits w.n M) * is k (of F) + is k (of T) + h' * is k (of H)
  unfolding layer_root
  layer_count h' l t i sig M =
      count_append k (leaf_from w l t i (take (chain_bytes w.n) sig) M).calls _
      ∙ ap₂ ◌+◌ (leaf_count l t i (take (chain_bytes w.n) sig) M)
      (climb_count (tree_node l t) h' 0 i _ (drop (chain_bytes w.n) sig))

  pub forest_walk_count : (t p a j : ℕ) (xs : List ℕ) (sig : Bytes) → count k (forest_walk w t p a j xs sig).calls
      ≡ length xs * is k (of F) + (length xs * a) * is k (of H)
  unfolding forest_walk count
  forest_walk_count t p a j [] sig = omega arith
  forest_walk_count t p a j (x ∷ xs) sig =
      ap (λ (y : ℕ). is k (of F) + y)
      (count_append k (climb w (forest_node t p) a 0 (j * 2 ^ a + x) _ (take (a * w.n) (drop w.n sig))).calls _
      ∙ ap₂ ◌+◌ (climb_count (forest_node t p) a 0 (j * 2 ^ a + x) _ (take (a * w.n) (drop w.n sig)))
      (ended (forest_walk w t p a (suc j) xs (drop (tree_bytes w.n a) sig)) _
      (forest_walk_count t p a (suc j) xs (drop (tree_bytes w.n a) sig))))
      ∙ omega arith

  pub forest_count : (t p a : ℕ) (xs : List ℕ) (sig : Bytes) → count k (forest_root w t p a xs sig).calls
      ≡ length xs * is k (of F) + (length xs * a) * is k (of H) + is k (of T)
  unfolding forest_root
  forest_count t p a xs sig =
      count_append k (forest_walk w t p a 0 xs sig).calls _
      ∙ ap₂ ◌+◌ (forest_walk_count t p a 0 xs sig) (one T (forest_roots t p) _)

-- ---- The layers from layer j on, and the whole check

module _ (r : Row) (f : Family r.n r.m) where
  module _ (k : Kind) (pk : Bytes) (at : Pointed) (seal : Bytes) where
    abbrev below : ℕ → ℕ
    below j = steps_of r f pk at seal j

    abbrev layer_on : (j : ℕ) (sig : Bytes) → Run Bytes
    layer_on j sig =
        layer_root (under f pk) r.h' j (tree_of r at j) (leaf_of r at j) sig (checked_value r f pk at seal j)

    one_count : (j : ℕ) (sig : Bytes) → below j * is k (of F) + count k (layer_on j sig).calls
        ≡ below (suc j) * is k (of F) + is k (of T) + r.h' * is k (of H)
    unfolding steps_of
    one_count j sig =
        let c : Bytes = checked_value r f pk at seal j in
        let q = layer_count (under f pk) k r.h' j (tree_of r at j) (leaf_of r at j) sig c in
        omega (arith, q, add-mul (below j) (steps (chain_digits r.n c)) (is k (of F)))

    layers_count : (above j top : ℕ) → suc (j + above) ≡ top
        → below j * is k (of F) + count k (layers_run r f pk at seal above j).calls
        ≡ below top * is k (of F) + suc above * is k (of T) + (suc above * r.h') * is k (of H)
    unfolding layers_root
    layers_count zero j top e =
        one_count j _ ∙ ap (λ (x : ℕ). below x * is k (of F) + is k (of T) + r.h' * is k (of H)) last ∙ omega arith
      where
        last : suc j ≡ top
        last = omega arith
    layers_count (suc above) j top e =
        let q = ap (λ (x : Run Bytes). count k x.calls) (next_run r f pk at seal above j)
        ∙ count_append k (layer_run r f pk at seal j).calls (layers_run r f pk at seal above (suc j)).calls in
        omega (arith, q, one_count j (part r (suc (suc j)) seal), layers_count above (suc j) top (omega arith))

    -- At a place of the key.
    root_count : Legal r → Inside r at → count k (root_at r f pk seal at).calls
        ≡ (r.k + below r.d) * is k (of F) + (r.k * r.a + r.h) * is k (of H) + (r.d + 1) * is k (of T)
    unfolding steps_of
    root_count legal p =
        ap (λ (x : Run Bytes). count k x.calls) (root_run r f pk at seal)
        ∙ count_append k (forest_run r f pk at seal).calls (layers_run r f pk at seal (r.d - 1) 0).calls
        ∙ omega (arith, trees, layers, ap (λ (x : ℕ). x * is k (of H)) legal.layers)
      where
        d_suc : suc (r.d - 1) ≡ r.d
        d_suc = omega (arith, legal.some_layer)

        trees : count k (forest_run r f pk at seal).calls
            ≡ r.k * is k (of F) + (r.k * r.a) * is k (of H) + is k (of T)
        trees =
            rw p.indices_long at
            (forest_count (under f pk) k at.tree at.leaf r.a at.indices (part r 1 seal))

        layers : 0 * is k (of F) + count k (layers_run r f pk at seal (r.d - 1) 0).calls
            ≡ below r.d * is k (of F) + r.d * is k (of T) + (r.d * r.h') * is k (of H)
        layers = rw d_suc at (layers_count (r.d - 1) 0 r.d (omega (arith, legal.some_layer)))

  -- The count of any kind in the check's list of calls, and of each kind by itself.
  module _ (legal : Legal r) (public M seal : Bytes) where
    abbrev calls : List Call
    calls = (checked_root r f public M seal).calls

    check_count : (k : Kind) → count k calls ≡ is k digest
        + (f_calls r f public M seal * is k (of F) + (r.k * r.a + r.h) * is k (of H) + (r.d + 1) * is k (of T))
    unfolding checked_root digest_of count f_calls
    check_count k =
        ap (λ (x : ℕ). is k digest + x)
        (root_count k (piece r.n 0 public) (pointed r D) seal legal (points_inside r legal D))
      where
        D : Bytes
        D = f.h_msg (part r 0 seal) (piece r.n 0 public) (piece r.n 1 public) M

    pub f_calls_lem : count (of F) calls ≡ f_calls r f public M seal
    unfolding is
    f_calls_lem = check_count (of F) ∙ omega arith

    pub h_calls : count (of H) calls ≡ r.k * r.a + r.h
    unfolding is
    h_calls = check_count (of H) ∙ omega arith

    pub t_calls : count (of T) calls ≡ r.d + 1
    unfolding is
    t_calls = check_count (of T) ∙ omega arith

    pub digest_calls : count digest calls ≡ 1
    unfolding is
    digest_calls = check_count digest ∙ omega arith

    -- A check makes no secret value and no randomizer.
    pub no_secret_calls : count (of PRF) calls ≡ 0
    unfolding is
    no_secret_calls = check_count (of PRF) ∙ omega arith

    pub no_randomizer_calls : count randomizer calls ≡ 0
    unfolding is
    no_randomizer_calls = check_count randomizer ∙ omega arith
