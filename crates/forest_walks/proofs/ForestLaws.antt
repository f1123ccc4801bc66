-- The laws of the forest's value on plain values: it is T of the roots that the trees' parts lead to, and that T is no
-- F call.
-- Assumes nothing.
use mathlib.Core.Path.{◌≡◌, sym, ◌∙◌}
use mathlib.Core.List.{List}
use Prim.Native.Nat.{ℕ}
use native.Mathlib.Omega.{arith}
use Rattle.rules.specs.Places.{Bytes, forest_roots, address}
use Rattle.rules.specs.Calls.{F, T, of, Hashes}
use Rattle.rules.specs.Forest.{forest_walk, forest_root}
use Rattle.counts.specs.Counts.{is, count}
use Rattle.counts.proofs.CountLaws.{count_append}

module _ (w : Hashes) (t p a : ℕ) (ds : List ℕ) (sig : Bytes) where
  pub forest_made : {at rs v : Bytes} → at ≡ address (forest_roots t p)
      → rs ≡ (forest_walk w t p a 0 ds sig).result → v ≡ w.hash T at rs → v ≡ (forest_root w t p a ds sig).result
  unfolding forest_root
  forest_made e f g = rw (e, f) at g

  -- The forest makes the F calls of its trees.
  pub forest_calls : {calls : ℕ} → calls ≡ count (of F) (forest_walk w t p a 0 ds sig).calls
      → calls ≡ count (of F) (forest_root w t p a ds sig).calls
  unfolding forest_root count is
  forest_calls e = e ∙ sym (count_append (of F) (forest_walk w t p a 0 ds sig).calls _ ∙ omega arith)
