-- The laws of the forest's part of a seal on plain values: what is written and what is left to write are the whole.
-- Assumes nothing.
use mathlib.Core.Path.{◌≡◌}
use mathlib.Core.List.{List, ◌++◌, append_assoc, append-nil}
use Prim.Native.Nat.{ℕ, ◌+◌, ◌*◌, ◌^◌, ◌≤◌, ◌<◌}
use native.Mathlib.Numerals.{add-one}
use native.Mathlib.Omega.{arith}
use lib.ListN.{length, drop, get_or, drop_of_length-le}
use lib.Seq.{drop-cons}
use Rattle.rules.specs.Places.{Bytes, forest_secret, address}
use Rattle.rules.specs.Calls.{PRF, Hashes}
use Rattle.rules.specs.Trees.{path}
use Rattle.rules.specs.Forest.{forest_tree, forest_seal}

-- The place of the next of equal parts.
pub next_place : (j m : ℕ) {x : ℕ} → x ≡ j * m → x + m ≡ (j + 1) * m
next_place j m e = omega (arith, e)

module _ (w : Hashes) (t p a : ℕ) (sk : Bytes) where
  -- A tree's part at leaf i of all trees.
  abbrev pub part_of : (i : ℕ) → Bytes
  part_of i = w.hash PRF (address (forest_secret t p i)) sk ++ (path w (forest_tree w t p sk) a 0 i).result

  -- A turn of the forest: tree j's part, and then the rest.
  forest_step : (ds : List ℕ) (j : ℕ) → j < length ds → (forest_seal w t p a sk j (drop j ds)).result
      ≡ part_of (j * 2 ^ a + get_or ds j 0) ++ (forest_seal w t p a sk (j + 1) (drop (j + 1) ds)).result
  unfolding forest_seal
  forest_step ds j h = rw (drop-cons ds j 0 h, add-one j, append_assoc)

  pub forest_turn : (ds : List ℕ) (j base : ℕ) (done ys : Bytes) {whole : Bytes} → j < length ds
      → base ≡ j * 2 ^ a → ys ≡ part_of (base + get_or ds j 0)
      → done ++ (forest_seal w t p a sk j (drop j ds)).result ≡ whole
      → (done ++ ys) ++ (forest_seal w t p a sk (j + 1) (drop (j + 1) ds)).result ≡ whole
  forest_turn ds j base done ys h e f q =
      rw (append_assoc, f, e, ← forest_step ds j h) q

  pub forest_end : (ds : List ℕ) (j : ℕ) (out : Bytes) {whole : Bytes} → length ds ≤ j
      → out ++ (forest_seal w t p a sk j (drop j ds)).result ≡ whole → out ≡ whole
  unfolding forest_seal
  forest_end ds j out h q = rw (drop_of_length-le ds h, append-nil) at q
