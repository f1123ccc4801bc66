-- The length of a seal, what the rules write as each of its parts, and a frame by its pieces.
-- Assumes nothing.
use mathlib.Core.Path.{◌≡◌, refl, sym, ap, ap₂, ◌∙◌}
use mathlib.Core.List.{[], ◌∷◌, ◌++◌}
use Prim.Native.Nat.{ℕ, zero, suc, ◌+◌, ◌-◌, ◌*◌, ◌^◌, ◌≤◌, ◌<◌}
use native.Mathlib.Nat.{zero-mul, suc-mul, add-zero, zero-add, add-suc, suc-add}
use native.Mathlib.Omega.{arith}
use lib.ListN.{length, take, drop, length-append}
use lib.Seq.{take_at, drop_at, take_all}
use Rattle.lists.proofs.Parts.{piece_suc, length_part, piece_room, drop_to}
use Rattle.rules.specs.Places.{Bytes}
use Rattle.rules.specs.Calls.{Family, under}
use Rattle.rules.specs.Layers.{chain_bytes, layer_bytes, layer_seal, layers_seal, tree_at, leaf_at}
use Rattle.rules.specs.Forest.{tree_bytes, forest_bytes, forest_seal}
use Rattle.rules.specs.Sets.{Row, Legal}
use Rattle.rules.specs.Digest.{Pointed}
use Rattle.rules.specs.Seal.{plain, frame, written, part_start, part_length, part, held_value}
use Rattle.rules.proofs.LayerLaws.{layer_seal_long, layers_seal_suc, layers_seal_long}
use Rattle.rules.proofs.ForestLaws.{forest_seal_long, forest_accepts}
use Rattle.rules.proofs.DigestLaws.{Inside, leaf_at_lt}

-- Two bytes, the context and the message, joined, are the message in its frame.
pub framed : (context message : Bytes)
    → (0 ∷ length context ∷ []) ++ (context ++ message) ≡ frame (plain context message)
unfolding frame
framed context message = refl

-- ---- Lengths

-- The bytes of the forest's part and of a layer's.
abbrev pub per_forest : Row → ℕ
per_forest r = forest_bytes r.n r.a r.k

abbrev pub per_layer : Row → ℕ
per_layer r = layer_bytes r.n r.h'

-- A seal is the randomizer, the forest's part and d layers' parts.
pub seal_parts : (r : Row) → Legal r
    → r.seal_bytes ≡ r.n + per_forest r + r.d * per_layer r
unfolding forest_bytes tree_bytes layer_bytes chain_bytes
seal_parts r legal = legal.seal_long ∙ omega (arith, ap (λ (x : ℕ). x * r.n) legal.layers)

-- Each part lies within a seal of the table's length: the parts are 0 to d + 1.
pub part_fits : (r : Row) → Legal r → (number : ℕ) → number < 2 + r.d
    → part_start r number + part_length r number ≤ r.seal_bytes
unfolding part_start part_length
part_fits r legal zero h = omega (arith, seal_parts r legal)
part_fits r legal (suc zero) h = omega (arith, seal_parts r legal)
part_fits r legal (suc (suc j)) h =
    omega (arith, seal_parts r legal, piece_room j r.d (per_layer r) (omega arith))

pub part_long : (r : Row) → Legal r → (number : ℕ) (seal : Bytes) → number < 2 + r.d → length seal ≡ r.seal_bytes
    → length (part r number seal) ≡ part_length r number
unfolding part
part_long r legal number seal h long =
    length_part (part_length r number) (part_start r number) seal (omega (arith, part_fits r legal number h, long))

-- What follows a layer's part begins with the next layer's.
pub next_part : (r : Row) (j : ℕ) (seal : Bytes)
    → drop (per_layer r) (drop (part_start r (suc (suc j))) seal) ≡ drop (part_start r (suc (suc (suc j)))) seal
unfolding part_start
next_part r j seal =
    drop_to (part_start r (suc (suc j))) (per_layer r) (part_start r (suc (suc (suc j)))) seal
    (omega (arith, suc-mul j (per_layer r)))

pub layer_start : (r : Row) (j : ℕ) (seal : Bytes)
    → drop (part_start r (suc (suc j))) seal ≡ drop (j * per_layer r) (drop (part_start r 2) seal)
unfolding part_start
layer_start r j seal =
    sym (drop_to (part_start r 2) (j * per_layer r) (part_start r (suc (suc j))) seal (omega arith))

-- ---- What the rules write

module _ (r : Row) (legal : Legal r) (f : Family r.n r.m) (sk pk : Bytes) (at : Pointed) (p : Inside r at) where
  abbrev forest : Bytes
  forest = (forest_seal (under f pk) at.tree at.leaf r.a sk 0 at.indices).result

  -- The layers from layer j on, with `above` more above it, and one layer.
  abbrev pub layers_from : (above j : ℕ) → Bytes
  layers_from above j =
      (layers_seal (under f pk) r.h' sk above j (tree_at r.h' at.tree j) (leaf_at r.h' at.tree at.leaf j)
      (held_value r f pk at sk j)).result

  abbrev pub held_layer : (j : ℕ) → Bytes
  held_layer j =
      (layer_seal (under f pk) r.h' sk j (tree_at r.h' at.tree j) (leaf_at r.h' at.tree at.leaf j)
      (held_value r f pk at sk j)).result

  pub written_is : (written r f sk pk at).result ≡ forest ++ layers_from (r.d - 1) 0
  unfolding written tree_at leaf_at held_value
  written_is =
      rw (forest_accepts (under f pk) sk at.tree at.leaf r.a r.k at.indices p.indices_below
      p.indices_long)

  pub forest_long : length forest ≡ per_forest r
  forest_long =
      forest_seal_long (under f pk) sk at.tree at.leaf r.a 0 at.indices
      ∙ ap (forest_bytes r.n r.a) p.indices_long

  pub leaf_lt : (j : ℕ) → leaf_at r.h' at.tree at.leaf j < 2 ^ r.h'
  leaf_lt j = leaf_at_lt r.h' at.tree at.leaf j p.leaf_lt

  d_suc : suc (r.d - 1) ≡ r.d
  d_suc = omega (arith, legal.some_layer)

  pub written_long : length (written r f sk pk at).result ≡ r.seal_bytes - r.n
  written_long =
      ap length written_is ∙ length-append forest (layers_from (r.d - 1) 0)
      ∙ ap₂ ◌+◌ forest_long (layers_seal_long (under f pk) r.h' sk (r.d - 1) 0 _ _ _ (leaf_lt 0))
      ∙ omega (arith, seal_parts r legal, ap (λ (x : ℕ). x * per_layer r) d_suc)

  pub from_suc : (above j : ℕ) → layers_from (suc above) j ≡ held_layer j ++ layers_from above (suc j)
  unfolding tree_at leaf_at held_value
  from_suc above j = layers_seal_suc (under f pk) r.h' sk above j _ _ _ (leaf_lt j)

  pub from_zero : (j : ℕ) → layers_from 0 j ≡ held_layer j
  unfolding layers_seal
  from_zero j = refl

  layer_long : (j : ℕ) → length (held_layer j) ≡ per_layer r
  layer_long j = layer_seal_long (under f pk) r.h' sk j _ _ _

  -- Layer j + i of what is written from layer j on.
  layer_at : (above i j : ℕ) → i ≤ above
      → take (per_layer r) (drop (i * per_layer r) (layers_from above j)) ≡ held_layer (j + i)
  layer_at zero zero j h =
      rw (zero-mul (per_layer r), from_zero j, add-zero j)
      (take_all (per_layer r) (held_layer j) (omega (arith, layer_long j)))
  layer_at zero (suc i) j h = absurd (omega arith)
  layer_at (suc above) zero j h =
      rw (zero-mul (per_layer r), from_suc above j, add-zero j)
      (take_at (held_layer j) (layers_from above (suc j)) (per_layer r) (layer_long j))
  layer_at (suc above) (suc i) j h =
      rw (from_suc above j, piece_suc (per_layer r) i (held_layer j) (layers_from above (suc j)) (layer_long j))
      (layer_at above i (suc j) (omega arith) ∙ ap held_layer (suc-add j i ∙ sym (add-suc j i)))

  -- ---- The parts of a seal that the rules write

  module _ (R : Bytes) (R-long : length R ≡ r.n) where
    pub part_randomizer : part r 0 (R ++ (written r f sk pk at).result) ≡ R
    unfolding part part_start part_length
    part_randomizer = take_at R _ r.n R-long

    pub part_forest : part r 1 (R ++ (written r f sk pk at).result) ≡ forest
    unfolding part part_start part_length
    part_forest =
        rw (drop_at R (written r f sk pk at).result r.n R-long, written_is)
        (take_at forest (layers_from (r.d - 1) 0) (per_forest r) forest_long)

    pub part_layers : drop (part_start r 2) (R ++ (written r f sk pk at).result) ≡ layers_from (r.d - 1) 0
    unfolding part_start
    part_layers =
        sym (drop_to r.n (per_forest r) (part_start r 2) (R ++ (written r f sk pk at).result) (omega arith))
        ∙ ap (drop (per_forest r)) (drop_at R _ r.n R-long ∙ written_is)
        ∙ drop_at forest _ (per_forest r) forest_long

    pub part_layer : (j : ℕ) → j < r.d → part r (suc (suc j)) (R ++ (written r f sk pk at).result) ≡ held_layer j
    unfolding part part_length
    part_layer j h =
        ap (take (per_layer r))
        (layer_start r j _ ∙ ap (drop (j * per_layer r)) part_layers)
        ∙ layer_at (r.d - 1) j 0 (omega arith) ∙ ap held_layer (zero-add j)
