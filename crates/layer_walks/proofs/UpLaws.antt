-- The layers as a loop walks them: k layers from layer l on, each on what the one below led to. With as many bytes as
-- the layers have, that is the rules' walk.
-- Assumes nothing.
use mathlib.Core.Path.{◌≡◌, sym, ap, ◌∙◌}
use mathlib.Core.List.{[]}
use Prim.Native.Nat.{ℕ, zero, suc, ◌+◌, ◌-◌, ◌*◌, ◌/◌, ◌%◌, ◌^◌, ◌≤◌, ◌<◌}
use native.Mathlib.Nat.{suc-mul, add-zero}
use native.Mathlib.Numerals.{add-one}
use native.Mathlib.Omega.{arith}
use lib.ListN.{length, take, drop, length-drop}
use lib.Seq.{take_all, drop-drop}
use Rattle.lists.proofs.Lent.{lent}
use Rattle.rules.specs.Places.{Bytes}
use Rattle.rules.specs.Calls.{F, of, Hashes, Run, return, ◌>>=◌}
use Rattle.rules.specs.Chains.{chains, chain_digits}
use Rattle.rules.specs.Layers.{layer_bytes, chain_bytes, layer_root, layers_root}
use Rattle.counts.specs.Counts.{is, count}
use Rattle.rules.proofs.ChecksumLaws.{steps_le, length-chain_digits}
use Rattle.counts.proofs.CountLaws.{count_append, layer_count}

module _ (w : Hashes) (h' : ℕ) where
  abbrev pub step : ℕ
  step = chains w.n * w.n + h' * w.n

  unfoldable pub up_run : (k l t i : ℕ) (M sig : Bytes) → Run Bytes
  up_run zero l t i M sig = return M
  up_run (suc k) l t i M sig = do
    root ← layer_root w h' l t i (take step sig) M
    up_run k (suc l) (t / 2 ^ h') (t % 2 ^ h') root (drop step sig)

  -- The walk of the rules.
  pub up_result : (above l t i : ℕ) (M sig : Bytes) → length sig ≡ suc above * step
      → (up_run (suc above) l t i M sig).result ≡ (layers_root w h' above l t i M sig).result
  unfolding up_run layers_root layer_bytes chain_bytes
  up_result zero l t i M sig long =
      ap (λ (x : Bytes). (layer_root w h' l t i x M).result) (take_all step sig (omega arith))
  up_result (suc above) l t i M sig long =
      up_result above (suc l) (t / 2 ^ h') (t % 2 ^ h') _ (drop step sig)
      (simp length-drop (omega (arith, suc-mul (suc above) step)))

  pub up_calls : (above l t i : ℕ) (M sig : Bytes) → length sig ≡ suc above * step
      → count (of F) (up_run (suc above) l t i M sig).calls ≡ count (of F) (layers_root w h' above l t i M sig).calls
  unfolding up_run layers_root layer_bytes chain_bytes count
  up_calls zero l t i M sig long =
      count_append (of F) (layer_root w h' l t i (take step sig) M).calls [] ∙ add-zero _
      ∙ ap (λ (x : Bytes). count (of F) (layer_root w h' l t i x M).calls) (take_all step sig (omega arith))
  up_calls (suc above) l t i M sig long =
      count_append (of F) (layer_root w h' l t i (take step sig) M).calls _
      ∙ ap (λ (x : ℕ). count (of F) (layer_root w h' l t i (take step sig) M).calls + x)
      (up_calls above (suc l) (t / 2 ^ h') (t % 2 ^ h') _ (drop step sig)
      (simp length-drop (omega (arith, suc-mul (suc above) step))))
      ∙ sym (count_append (of F) (layer_root w h' l t i (take step sig) M).calls _)

  -- A turn: one layer more, and its calls, where a layer's part has `part` bytes.
  pub up_turn : (d j t i at size part : ℕ) (M sig root : Bytes) {whole : Bytes} → j < d → size ≡ 2 ^ h' → part ≡ step
      → root ≡ (layer_root w h' j t i (take (at + part - at) (drop at sig)) M).result
      → (up_run (d - j) j t i M (drop at sig)).result ≡ whole
      → (up_run (d - (j + 1)) (j + 1) (t / size) (t % size) root (drop (at + part) sig)).result ≡ whole
  unfolding up_run
  up_turn d j t i at size part M sig root h s p e q =
      let left : d - j ≡ suc (d - (j + 1)) = omega arith in
      rw (s, p, add-one j, ← drop-drop step at sig, rw (p, lent at step sig) at e) (rw (left, add-one j) at q)

  -- What a turn calls, and what is left after it, is what was left before it.
  pub up_turn_calls : (d j t i at size part : ℕ) (M sig root : Bytes) {calls : ℕ} → j < d → size ≡ 2 ^ h'
      → part ≡ step → root ≡ (layer_root w h' j t i (take (at + part - at) (drop at sig)) M).result
      → calls ≡ count (of F) (layer_root w h' j t i (take (at + part - at) (drop at sig)) M).calls
      → count (of F) (up_run (d - j) j t i M (drop at sig)).calls
      ≡ calls + count (of F) (up_run (d - (j + 1)) (j + 1) (t / size) (t % size) root (drop (at + part) sig)).calls
  unfolding up_run
  up_turn_calls d j t i at size part M sig root h s p e g =
      let left : d - j ≡ suc (d - (j + 1)) = omega arith in
      rw (left, add-one j, g, s, p, ← drop-drop step at sig, rw (p, lent at step sig) at e, lent at step sig)
      (count_append (of F) (layer_root w h' j t i (take step (drop at sig)) M).calls _)

  -- Above the last layer nothing is left.
  pub up_end : (d j t i : ℕ) (M sig : Bytes) → d ≤ j
      → ((up_run (d - j) j t i M sig).result ≡ M) × (count (of F) (up_run (d - j) j t i M sig).calls ≡ 0)
  unfolding up_run count
  up_end d j t i M sig h =
      let none : d - j ≡ 0 = omega arith in
      (rw none, rw none)

  -- A layer makes at most 15 F calls a chain.
  layer_most : (l t i : ℕ) (sig M : Bytes) → w.n ≤ 32 → count (of F) (layer_root w h' l t i sig M).calls ≤ 1005
  unfolding is
  layer_most l t i sig M h =
      rw (layer_count w (of F) h' l t i sig M)
      (omega (arith, steps_le (chain_digits w.n M), length-chain_digits w.n M))

  pub up_most : (k l t i : ℕ) (M sig : Bytes) → w.n ≤ 32 → count (of F) (up_run k l t i M sig).calls ≤ k * 1005
  unfolding up_run count
  up_most zero l t i M sig h = omega arith
  up_most (suc k) l t i M sig h =
      rw (count_append (of F) (layer_root w h' l t i (take step sig) M).calls
      (up_run k (suc l) (t / 2 ^ h') (t % 2 ^ h') (layer_root w h' l t i (take step sig) M).result
      (drop step sig)).calls)
      (omega (
        arith,
        layer_most l t i (take step sig) M h,
        up_most k (suc l) (t / 2 ^ h') (t % 2 ^ h')
            (layer_root w h' l t i (take step sig) M).result (drop step sig) h,
      ))
