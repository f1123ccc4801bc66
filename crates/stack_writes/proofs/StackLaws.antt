-- The laws of all layers' parts of a seal on plain values: what is written and what is left to write are the whole.
-- Assumes nothing.
use mathlib.Core.Path.{◌≡◌}
use mathlib.Core.List.{◌++◌, append_assoc}
use Prim.Native.Nat.{ℕ, suc, ◌+◌, ◌-◌, ◌/◌, ◌%◌, ◌^◌, ◌<◌}
use native.Mathlib.Numerals.{add-one}
use native.Mathlib.Omega.{arith}
use Rattle.rules.specs.Places.{Bytes}
use Rattle.rules.specs.Calls.{Hashes}
use Rattle.rules.specs.Layers.{layer_seal, layer_root, layers_seal}

module _ (w : Hashes) (h' : ℕ) (sk : Bytes) where
  -- A turn of the layers: layer j's part, and then those above it, for the root that it leads to.
  pub layers_turn : (top j t i size : ℕ) (m done ys root : Bytes) {whole : Bytes} → j < top → size ≡ 2 ^ h'
      → ys ≡ (layer_seal w h' sk j t i m).result → root ≡ (layer_root w h' j t i ys m).result
      → done ++ (layers_seal w h' sk (top - j) j t i m).result ≡ whole
      → (done ++ ys) ++ (layers_seal w h' sk (top - (j + 1)) (j + 1) (t / size) (t % size) root).result ≡ whole
  unfolding layers_seal
  layers_turn top j t i size m done ys root h s e f q =
      let left : top - j ≡ suc (top - suc j) = omega arith in
      rw (append_assoc, f, e, s, add-one j) (rw left at q)

  -- At the top the one layer is left.
  pub layers_end : (top t i : ℕ) (m done ys : Bytes) {whole : Bytes} → ys ≡ (layer_seal w h' sk top t i m).result
      → done ++ (layers_seal w h' sk (top - top) top t i m).result ≡ whole → done ++ ys ≡ whole
  unfolding layers_seal
  layers_end top t i m done ys e q =
      let none : top - top ≡ 0 = omega arith in
      rw e (rw none at q)
