-- The laws of a layer's walk on plain values: a layer is the leaf that its chain values lead to and the climb from it,
-- and the climb makes no F call.
-- Assumes nothing.
use mathlib.Core.Path.{◌≡◌, sym, ap, ap₂, ◌∙◌}
use Prim.Native.Nat.{ℕ, ◌-◌, ◌*◌}
use native.Mathlib.Omega.{arith}
use lib.ListN.{length, take, drop}
use Rattle.lists.proofs.Filling.{rest_read}
use Rattle.rules.specs.Places.{Bytes, tree_node}
use Rattle.rules.specs.Calls.{F, of, Hashes}
use Rattle.rules.specs.Chains.{chains, leaf_from}
use Rattle.rules.specs.Trees.{climb}
use Rattle.rules.specs.Layers.{chain_bytes, layer_root}
use Rattle.counts.specs.Counts.{is, count}
use Rattle.counts.proofs.CountLaws.{leaf_count, layer_count}

module _ (w : Hashes) where
  -- A layer: the leaf that its chain values lead to, and the climb.
  module _ (h' l t i : ℕ) (sig m : Bytes) where
    pub layer_made : (size : ℕ) {leaf root : Bytes} → size ≡ chains w.n * w.n
        → leaf ≡ (leaf_from w l t i (take size sig) m).result
        → root ≡ (climb w (tree_node l t) h' 0 i leaf (take (length sig - size) (drop size sig))).result
        → root ≡ (layer_root w h' l t i sig m).result
    unfolding layer_root chain_bytes
    layer_made size e f g =
        g ∙ ap₂ (λ v auth. (climb w (tree_node l t) h' 0 i v auth).result)
        (f ∙ ap (λ k. (leaf_from w l t i (take k sig) m).result) e)
        (rest_read size sig ∙ ap (λ k. drop k sig) e)

    pub layer_calls : (chained : Bytes) {calls : ℕ} → calls ≡ count (of F) (leaf_from w l t i chained m).calls
        → calls ≡ count (of F) (layer_root w h' l t i sig m).calls
    unfolding is
    layer_calls chained e =
        e ∙ leaf_count w (of F) l t i chained m ∙ sym (layer_count w (of F) h' l t i sig m ∙ omega arith)
