-- The laws of a layer and of the layers above each other: what the rules write leads to the own root.
-- Assumes nothing.
use mathlib.Core.Path.{◌≡◌, refl, sym, ap, ap₂, ◌∙◌}
use mathlib.Core.List.{◌++◌}
use Prim.Native.Nat.{ℕ, zero, suc, ◌+◌, ◌*◌, ◌/◌, ◌%◌, ◌^◌, ◌<◌}
use native.Mathlib.Nat.{suc-mul, suc-add, add-suc, add-zero, div-eq_of_lt, mod-lt, mul-suc, mul-zero}
use native.Mathlib.Omega.{arith}
use lib.ListN.{length, take, drop, length-append}
use lib.Arith.{lt-one}
use lib.Pow.{pow_pos, shr_lt}
use lib.Seq.{take_at, drop_at}
use Rattle.rules.specs.Places.{Bytes, IsBytes, tree_node}
use Rattle.rules.specs.Calls.{Hashes}
use Rattle.rules.specs.Chains.{chain_digits, shown}
use Rattle.rules.specs.Trees.{path}
use Rattle.rules.specs.Layers.{chain_bytes, layer_bytes, layer_tree, own_root, layer_seal, layer_root, layers_seal}
use Rattle.rules.specs.Layers.{layers_root}
use Rattle.rules.proofs.ChecksumLaws.{length-chain_digits}
use Rattle.rules.proofs.ChainLaws.{length-shown, leaf_sized, leaf_from_sized, leaf_accepts}
use Rattle.rules.proofs.TreeLaws.{climb_sized, node_sized, length-path, leaf_climbs}

-- ---- One layer: tree t of layer l, leaf i

module _ (w : Hashes) (h' : ℕ) where
  pub layer_root_sized : (l t i : ℕ) (sig M : Bytes) → IsBytes w.n (layer_root w h' l t i sig M).result
  unfolding layer_root
  layer_root_sized l t i sig M =
      climb_sized w (tree_node l t) h' 0 i _ (drop (chain_bytes w.n) sig)
      (leaf_from_sized w l t i (take (chain_bytes w.n) sig) M)

  module _ (sk : Bytes) where
    pub own_root_sized : (l t : ℕ) → IsBytes w.n (own_root w h' sk l t).result
    unfolding own_root
    own_root_sized l t = node_sized w (layer_tree w sk l t) (λ i. leaf_sized w l t i sk) h' 0

    -- What is shown for M, and the path of leaf i: the two parts of a layer's seal.
    abbrev pub shown_for : (l t i : ℕ) (M : Bytes) → Bytes
    shown_for l t i M = (shown w l t i sk 0 (chain_digits w.n M)).result

    abbrev pub path_of : (l t i : ℕ) → Bytes
    path_of l t i = (path w (layer_tree w sk l t) h' 0 i).result

    pub layer_seal_is : (l t i : ℕ) (M : Bytes)
        → (layer_seal w h' sk l t i M).result ≡ shown_for l t i M ++ path_of l t i
    unfolding layer_seal
    layer_seal_is l t i M = refl

    pub shown_long : (l t i : ℕ) (M : Bytes) → length (shown_for l t i M) ≡ chain_bytes w.n
    unfolding chain_bytes
    shown_long l t i M =
        length-shown w l t i sk 0 (chain_digits w.n M) ∙ ap (λ (x : ℕ). x * w.n) (length-chain_digits w.n M)

    pub layer_seal_long : (l t i : ℕ) (M : Bytes) → length (layer_seal w h' sk l t i M).result ≡ layer_bytes w.n h'
    unfolding layer_bytes
    layer_seal_long l t i M =
        ap length (layer_seal_is l t i M) ∙ length-append (shown_for l t i M) (path_of l t i)
        ∙ ap₂ ◌+◌ (shown_long l t i M) (length-path w (layer_tree w sk l t) (λ j. leaf_sized w l t j sk) h' 0 i)

    -- Acceptance of a layer's seal.
    pub layer_accepts : (l t i : ℕ) (M : Bytes) → i < 2 ^ h'
        → (layer_root w h' l t i (layer_seal w h' sk l t i M).result M).result ≡ (own_root w h' sk l t).result
    unfolding layer_root own_root
    layer_accepts l t i M h =
        rw (
          layer_seal_is l t i M,
          take_at (shown_for l t i M) (path_of l t i) (chain_bytes w.n) (shown_long l t i M),
          drop_at (shown_for l t i M) (path_of l t i) (chain_bytes w.n) (shown_long l t i M),
          leaf_accepts w l t i sk M,
        )
        (leaf_climbs w (layer_tree w sk l t) (λ j. leaf_sized w l t j sk) h' i 0 (div-eq_of_lt h))

-- ---- The layers, where `above` more stand above layer l

-- A tree number with no layer above is zero, and one layer up it is that much smaller.
pub zero_tree : (h' t : ℕ) → t < 2 ^ (h' * 0) → t ≡ 0
zero_tree h' t h = lt-one (rw (mul-zero h') at h)

pub tree_up : (h' above t : ℕ) → t < 2 ^ (h' * suc above) → t / 2 ^ h' < 2 ^ (h' * above)
tree_up h' above t h = shr_lt (h' * above) h' (rw (mul-suc h' above) at h)

module _ (w : Hashes) (h' : ℕ) (sk : Bytes) where
  layers_seal_zero : (l t i : ℕ) (M : Bytes)
      → (layers_seal w h' sk 0 l t i M).result ≡ (layer_seal w h' sk l t i M).result
  unfolding layers_seal
  layers_seal_zero l t i M = refl

  -- What the holder writes, by the root of the tree below.
  pub layers_seal_suc : (above l t i : ℕ) (M : Bytes) → i < 2 ^ h'
      → (layers_seal w h' sk (suc above) l t i M).result
      ≡ (layer_seal w h' sk l t i M).result
      ++ (layers_seal w h' sk above (suc l) (t / 2 ^ h') (t % 2 ^ h') (own_root w h' sk l t).result).result
  unfolding layers_seal
  layers_seal_suc above l t i M h = rw (layer_accepts w h' sk l t i M h)

  pub layers_seal_long : (above l t i : ℕ) (M : Bytes) → i < 2 ^ h'
      → length (layers_seal w h' sk above l t i M).result ≡ suc above * layer_bytes w.n h'
  layers_seal_long zero l t i M h =
      ap length (layers_seal_zero l t i M) ∙ layer_seal_long w h' sk l t i M ∙ omega arith
  layers_seal_long (suc above) l t i M h =
      ap length (layers_seal_suc above l t i M h) ∙ length-append (layer_seal w h' sk l t i M).result _
      ∙ ap₂ ◌+◌ (layer_seal_long w h' sk l t i M)
      (layers_seal_long above (suc l) (t / 2 ^ h') (t % 2 ^ h') (own_root w h' sk l t).result (mod-lt t (pow_pos h')))
      ∙ omega (arith, suc-mul (suc above) (layer_bytes w.n h'))

  -- Acceptance of all layers' seals.
  pub layers_accept : (above l t i : ℕ) (M : Bytes) → i < 2 ^ h' → t < 2 ^ (h' * above)
      → (layers_root w h' above l t i M (layers_seal w h' sk above l t i M).result).result
      ≡ (own_root w h' sk (l + above) 0).result
  unfolding layers_root
  layers_accept zero l t i M i< t< =
      rw (layers_seal_zero l t i M, layer_accepts w h' sk l t i M i<)
      (ap₂ (λ x y. (own_root w h' sk x y).result) (sym (add-zero l)) (zero_tree h' t t<))
  layers_accept (suc above) l t i M i< t< =
      rw (
        layers_seal_suc above l t i M i<,
        take_at (layer_seal w h' sk l t i M).result rest (layer_bytes w.n h') (layer_seal_long w h' sk l t i M),
        drop_at (layer_seal w h' sk l t i M).result rest (layer_bytes w.n h') (layer_seal_long w h' sk l t i M),
        layer_accepts w h' sk l t i M i<,
      )
      (layers_accept above (suc l) (t / 2 ^ h') (t % 2 ^ h') (own_root w h' sk l t).result (mod-lt t (pow_pos h'))
      (tree_up h' above t t<) ∙ ap (λ (x : ℕ). (own_root w h' sk x 0).result) (suc-add l above ∙ sym (add-suc l above)))
    where
      rest : Bytes
      rest = (layers_seal w h' sk above (suc l) (t / 2 ^ h') (t % 2 ^ h') (own_root w h' sk l t).result).result
