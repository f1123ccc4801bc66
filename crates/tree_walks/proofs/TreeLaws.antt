-- The laws of the trees' walk on plain values: a tree is F of its secret value and the climb from it, what is done and
-- what is left of the trees are the whole, and each tree makes one F call.
-- Assumes nothing.
use mathlib.Core.Path.{◌≡◌, sym, ap, ap₂, ◌∙◌}
use mathlib.Core.List.{List, ◌++◌, append_assoc, append-nil}
use Prim.Native.Nat.{ℕ, ◌+◌, ◌-◌, ◌*◌, ◌^◌, ◌≤◌, ◌<◌}
use native.Mathlib.Numerals.{add-one}
use native.Mathlib.Omega.{arith}
use lib.ListN.{length, take, drop, get_or, drop_of_length-le}
use lib.Seq.{take-take, drop-drop, drop-cons}
use Rattle.lists.proofs.Parts.{drop_take}
use Rattle.lists.proofs.Filling.{rest_read}
use Rattle.rules.specs.Places.{Bytes, forest_node, address}
use Rattle.rules.specs.Calls.{F, of, Hashes}
use Rattle.rules.specs.Trees.{climb}
use Rattle.rules.specs.Forest.{tree_bytes, forest_walk}
use Rattle.counts.specs.Counts.{is, count}
use Rattle.counts.proofs.CountLaws.{climb_count, forest_walk_count}
use Rattle.tree_walks.specs.Tree.{tree_run}

module _ (w : Hashes) (t p a : ℕ) where
  -- A tree of the forest: F of its secret value, and the climb.
  pub tree_made : (i : ℕ) (part : Bytes) {at leaf root : Bytes} → at ≡ address (forest_node t p 0 i)
      → leaf ≡ w.hash F at (take w.n part)
      → root ≡ (climb w (forest_node t p) a 0 i leaf (take (length part - w.n) (drop w.n part))).result
      → root ≡ (tree_run w t p a i part).result
  tree_made i part e f g =
      g ∙ ap₂ (λ v auth. (climb w (forest_node t p) a 0 i v auth).result)
      (f ∙ ap (λ x. w.hash F x (take w.n part)) e) (rest_read w.n part)

  -- It makes one F call: the climb makes none.
  pub tree_calls : (i : ℕ) (part : Bytes) {calls : ℕ} → calls ≡ count (of F) (tree_run w t p a i part).calls
      → calls ≡ 1
  unfolding is count
  tree_calls i part e =
      let leaf : Bytes = w.hash F (address (forest_node t p 0 i)) (take w.n part) in
      omega (arith, e, climb_count w (of F) (forest_node t p) a 0 i leaf (drop w.n part))

  -- Tree j's root is worked out from the first bytes that are left.
  first_root : (i : ℕ) (X : Bytes) → (tree_run w t p a i (take (w.n + a * w.n) X)).result
      ≡ (climb w (forest_node t p) a 0 i (w.hash F (address (forest_node t p 0 i)) (take w.n X))
      (take (a * w.n) (drop w.n X))).result
  first_root i X =
      ap₂ (λ x y. (climb w (forest_node t p) a 0 i (w.hash F (address (forest_node t p 0 i)) x) y).result)
      (take-take w.n (w.n + a * w.n) X (omega arith)) (drop_take w.n (a * w.n) X)

  -- A turn of the roots: tree j's, and then the rest.
  roots_step : (ds : List ℕ) (j : ℕ) (X : Bytes) → j < length ds → (forest_walk w t p a j (drop j ds) X).result
      ≡ (tree_run w t p a (j * 2 ^ a + get_or ds j 0) (take (w.n + a * w.n) X)).result
      ++ (forest_walk w t p a (j + 1) (drop (j + 1) ds) (drop (w.n + a * w.n) X)).result
  unfolding forest_walk tree_bytes
  roots_step ds j X h =
      rw (drop-cons ds j 0 h, add-one j, first_root (j * 2 ^ a + get_or ds j 0) X)

  pub roots_turn : (ds : List ℕ) (j i at part : ℕ) (sig done v : Bytes) {whole : Bytes} → j < length ds
      → part ≡ w.n + a * w.n → i ≡ j * 2 ^ a + get_or ds j 0
      → v ≡ (tree_run w t p a i (take part (drop at sig))).result
      → done ++ (forest_walk w t p a j (drop j ds) (drop at sig)).result ≡ whole
      → (done ++ v) ++ (forest_walk w t p a (j + 1) (drop (j + 1) ds) (drop (at + part) sig)).result ≡ whole
  roots_turn ds j i at part sig done v h long e f q =
      append_assoc done v _
      ∙ ap (λ x. done ++ x) (ap₂ ◌++◌ (f ∙ ap₂ (λ k m. (tree_run w t p a k (take m (drop at sig))).result) e long)
      (ap (λ x. (forest_walk w t p a (j + 1) (drop (j + 1) ds) x).result)
      (sym (drop-drop part at sig) ∙ ap (λ m. drop m (drop at sig)) long))
      ∙ sym (roots_step ds j (drop at sig) h))
      ∙ q

  pub roots_end : (ds : List ℕ) (j : ℕ) (out rest : Bytes) {whole : Bytes} → length ds ≤ j
      → out ++ (forest_walk w t p a j (drop j ds) rest).result ≡ whole → out ≡ whole
  unfolding forest_walk
  roots_end ds j out rest h q = rw (drop_of_length-le ds h, append-nil) at q

  -- The walk makes one F call a tree.
  pub roots_calls : (ds : List ℕ) (sig : Bytes) → length ds ≡ count (of F) (forest_walk w t p a 0 ds sig).calls
  unfolding is
  roots_calls ds sig = sym (forest_walk_count w (of F) t p a 0 ds sig ∙ omega arith)
