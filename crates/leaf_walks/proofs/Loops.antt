-- A turn and the end of the loop over the chains that a check walks, on plain values: what is left from here is the
-- whole; and the leaf from it.
-- Assumes nothing.
use mathlib.Core.Path.{◌≡◌, sym, ap, ◌∙◌}
use mathlib.Core.List.{List, ◌++◌, append_assoc, append-nil}
use Prim.Native.Nat.{ℕ, ◌+◌, ◌-◌, ◌*◌, ◌≤◌, ◌<◌}
use native.Mathlib.Numerals.{add-one}
use native.Mathlib.Nat.{add-zero, mul-one}
use lib.ListN.{length, drop, get_or, drop_of_length-le}
use lib.Seq.{drop-cons, take_at, drop_at}
use Rattle.rules.specs.Places.{Bytes, chain_step, chain_ends, address}
use Rattle.rules.specs.Calls.{F, T, of, Hashes}
use Rattle.rules.specs.Chains.{steps, chain_digits, chain, walk, leaf_from}
use Rattle.counts.specs.Counts.{is, count}
use Rattle.counts.proofs.CountLaws.{walk_count, leaf_count}
use Rattle.chains.proofs.Loops.{chain_calls}

module _ (w : Hashes) (l t p : ℕ) where
  -- A turn of the walk: chain i's end, and then the rest of the values.
  pub walk_turn : (ds : List ℕ) (i : ℕ) (front x ys rest : Bytes) {whole : Bytes} → i < length ds
      → length x ≡ w.n → ys ≡ (chain w (chain_step l t p i) x (get_or ds i 0) (15 - get_or ds i 0)).result
      → front ++ (walk w l t p i (drop i ds) (x ++ rest)).result ≡ whole
      → (front ++ ys) ++ (walk w l t p (i + 1) (drop (i + 1) ds) rest).result ≡ whole
  unfolding walk
  walk_turn ds i front x ys rest h long e q =
      rw (append_assoc, e, add-one i)
      (rw (drop-cons ds i 0 h, take_at x rest w.n long, drop_at x rest w.n long) at q)

  pub walk_end : (ds : List ℕ) (i : ℕ) (out rest : Bytes) {whole : Bytes} → length ds ≤ i
      → out ++ (walk w l t p i (drop i ds) rest).result ≡ whole → out ≡ whole
  unfolding walk
  walk_end ds i out rest h q = rw (drop_of_length-le ds h, append-nil) at q

  -- The walk makes as many F calls as its digits leave steps.
  pub walk_calls : (ds : List ℕ) (sig : Bytes) → steps ds ≡ count (of F) (walk w l t p 0 ds sig).calls
  unfolding is
  walk_calls ds sig = sym (walk_count w (of F) l t p 0 ds sig ∙ mul-one (steps ds))

  -- The steps left from chain i on: its calls, and then the rest.
  pub steps_turn : (ds : List ℕ) (i : ℕ) (x : Bytes) {calls : ℕ} → i < length ds
      → calls ≡ count (of F) (chain w (chain_step l t p i) x (get_or ds i 0) (15 - get_or ds i 0)).calls
      → steps (drop i ds) ≡ calls + steps (drop (i + 1) ds)
  unfolding steps
  steps_turn ds i x h made =
      rw (
        made,
        ← chain_calls w (chain_step l t p i) x (get_or ds i 0) (15 - get_or ds i 0),
        drop-cons ds i 0 h,
        add-one i,
      )

-- Beyond the last chain no steps are left.
pub steps_end : (ds : List ℕ) (i : ℕ) → length ds ≤ i → steps (drop i ds) ≡ 0
unfolding steps
steps_end ds i h = rw (drop_of_length-le ds h)

-- ---- The leaf that a seal leads to

module _ (w : Hashes) (l t p : ℕ) (sig m : Bytes) where
  pub from_made : {ds : List ℕ} {starts es v : Bytes} → ds ≡ chain_digits w.n m → starts ≡ sig
      → es ≡ (walk w l t p 0 ds starts).result → v ≡ w.hash T (address (chain_ends l t p)) es
      → v ≡ (leaf_from w l t p sig m).result
  unfolding leaf_from
  from_made e f g h = rw (g, e, f) at h

  pub from_calls : {ds : List ℕ} (starts : Bytes) {calls : ℕ} → ds ≡ chain_digits w.n m
      → calls ≡ count (of F) (walk w l t p 0 ds starts).calls → calls ≡ count (of F) (leaf_from w l t p sig m).calls
  unfolding is
  from_calls {ds} starts e g =
      g ∙ walk_count w (of F) l t p 0 ds starts ∙ ap (λ (x : List ℕ). steps x * 1) e
      ∙ sym (leaf_count w (of F) l t p sig m ∙ add-zero _)
