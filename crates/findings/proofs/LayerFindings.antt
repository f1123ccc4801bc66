-- What leads to the own root of a layer's tree is what the rules write, or shows a collision: the path from the root
-- down, T, then the chains from 0 up.
-- Assumes nothing.
use mathlib.Core.Path.{◌≡◌, sym, ap, ap₂, ◌∙◌}
use mathlib.Core.Logic.{◌⊎◌, inl, inr}
use mathlib.Core.List.{◌++◌}
use Prim.Native.Nat.{ℕ, ◌*◌, ◌^◌, ◌<◌}
use native.Mathlib.Nat.{zero-add, div-eq_of_lt}
use native.Mathlib.Omega.{arith}
use lib.ListN.{length, get_or, take, drop, length-drop, take-append-drop}
use lib.Seq.{take_at, length-take-le}
use Rattle.lists.proofs.Parts.{take_drop_take, piece_room}
use Rattle.rules.specs.Places.{Bytes, tree_node}
use Rattle.rules.specs.Calls.{Hashes, Run, Call}
use Rattle.rules.specs.Chains.{chains, chain_digits, leaf_from, own_chain}
use Rattle.rules.specs.Trees.{climb}
use Rattle.rules.specs.Layers.{chain_bytes, layer_bytes, layer_tree, own_root, layer_seal, layer_root}
use Rattle.rules.specs.Keys.{piece}
use Rattle.findings.specs.Findings.{Collision}
use Rattle.rules.proofs.ChecksumLaws.{length-chain_digits}
use Rattle.findings.proofs.FindingLaws.{Owns, before, after, then, found}
use Rattle.rules.proofs.ChainLaws.{leaf_sized, leaf_from_sized, shown_at}
use Rattle.findings.proofs.ChainFindings.{leaf_shows}
use Rattle.rules.proofs.LayerLaws.{shown_for, path_of, layer_seal_is, shown_long}
use Rattle.findings.proofs.TreeFindings.{leaf_climb_shows, owns_leaf}

-- Tree t of layer l, leaf i.
module _ (w : Hashes) (h' : ℕ) (sk : Bytes) where
  -- Chain c of a layer's part whose chain values are those shown for M.
  shows_chain : (l t i : ℕ) (M sig : Bytes) (c : ℕ) → c < chains w.n
      → take (chain_bytes w.n) sig ≡ shown_for w h' sk l t i M
      → piece w.n c sig ≡ own_chain w l t i sk c (get_or (chain_digits w.n M) c 0)
  unfolding chain_bytes
  shows_chain l t i M sig c h e =
      sym (take_drop_take w.n (c * w.n) (chains w.n * w.n) sig (piece_room c (chains w.n) w.n h))
      ∙ ap (piece w.n c) e
      ∙ shown_at w l t i sk 0 (chain_digits w.n M) c (omega (arith, h, length-chain_digits w.n M))
      ∙ ap (λ (x : ℕ). own_chain w l t i sk x (get_or (chain_digits w.n M) c 0)) (zero-add c)

  pub holder_shows : (l t i : ℕ) (M : Bytes) (c : ℕ) → c < chains w.n
      → piece w.n c (layer_seal w h' sk l t i M).result
      ≡ own_chain w l t i sk c (get_or (chain_digits w.n M) c 0)
  holder_shows l t i M c h =
      shows_chain l t i M (layer_seal w h' sk l t i M).result c h
      (ap (take (chain_bytes w.n)) (layer_seal_is w h' sk l t i M)
      ∙ take_at (shown_for w h' sk l t i M) (path_of w h' sk l t i) (chain_bytes w.n) (shown_long w h' sk l t i M))

  -- What leads to the own root: the path from the root down, T, then the chains from 0 up.
  pub record Shows (l t i : ℕ) (sig M : Bytes) : Type 0 where
    pub whole : sig ≡ (layer_seal w h' sk l t i M).result
    pub chain_at : (c : ℕ) → c < chains w.n
        → piece w.n c sig ≡ own_chain w l t i sk c (get_or (chain_digits w.n M) c 0)

  pub layer_shows : (Own : Call → Type 0) (l t i : ℕ) (sig M : Bytes) → Owns Own (own_root w h' sk l t) → i < 2 ^ h'
      → length sig ≡ layer_bytes w.n h' → (layer_root w h' l t i sig M).result ≡ (own_root w h' sk l t).result
      → Shows l t i sig M ⊎ Collision w Own (layer_root w h' l t i sig M).calls
  unfolding layer_root own_root layer_bytes chain_bytes
  layer_shows Own l t i sig M o i< long e =
      then (found (after leaf_run.calls)
      (leaf_climb_shows w (layer_tree w sk l t) (λ j. leaf_sized w l t j sk) Own h' i 0 leaf_run.result auth
      (div-eq_of_lt i<) o (leaf_from_sized w l t i front M).long (simp length-drop (omega arith)) e)) (λ q.
      found (before (climb w (tree_node l t) h' 0 i leaf_run.result auth).calls)
      (own_chains q.1
      (leaf_shows w l t i sk Own front M (owns_leaf w (layer_tree w sk l t) Own h' i 0 (div-eq_of_lt i<) o)
      (length-take-le (chain_bytes w.n) sig (omega arith)) q.0)))
    where
      front : Bytes
      front = take (chain_bytes w.n) sig

      auth : Bytes
      auth = drop (chain_bytes w.n) sig

      leaf_run : Run Bytes
      leaf_run = leaf_from w l t i front M

      own_chains : auth ≡ path_of w h' sk l t i → (front ≡ shown_for w h' sk l t i M) ⊎ Collision w Own leaf_run.calls
          → Shows l t i sig M ⊎ Collision w Own leaf_run.calls
      own_chains a (inl s) = inl (record {
        whole = sym (take-append-drop (chain_bytes w.n) sig) ∙ ap₂ ◌++◌ s a ∙ sym (layer_seal_is w h' sk l t i M);
        chain_at = λ c h. shows_chain l t i M sig c h s;
      })
      own_chains a (inr c) = inr c
