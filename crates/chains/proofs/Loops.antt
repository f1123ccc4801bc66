-- A turn and the end of each loop along a chain and over what chains show, on plain values: what is left from here is
-- the whole.
-- Assumes nothing.
use mathlib.Core.Path.{◌≡◌, sym, ◌∙◌}
use mathlib.Core.List.{List, ◌++◌, append_assoc, append-nil}
use Prim.Native.Nat.{ℕ, suc, ◌+◌, ◌-◌, ◌≤◌, ◌<◌}
use native.Mathlib.Omega.{arith}
use native.Mathlib.Numerals.{add-one}
use native.Mathlib.Nat.{mul-one}
use lib.ListN.{length, drop, get_or, drop_of_length-le}
use lib.Seq.{drop-cons}
use Rattle.rules.specs.Places.{Bytes, Place, chain_step, chain_secret, address}
use Rattle.rules.specs.Calls.{F, PRF, of, Hashes}
use Rattle.rules.specs.Chains.{chain, shown, own_chain}
use Rattle.counts.specs.Counts.{is, count}
use Rattle.counts.proofs.CountLaws.{chain_count}
use Rattle.rules.proofs.ChainLaws.{shown_nil, shown_cons}

module _ (w : Hashes) (at : ℕ → Place) where
  -- A turn of the chain: from position s + k, m - k steps are left.
  pub chain_turn : (s m k : ℕ) (x : Bytes) {a y whole : Bytes} → k < m → a ≡ address (at (s + k)) → y ≡ w.hash F a x
      → (chain w at x (s + k) (m - k)).result ≡ whole → (chain w at y (s + (k + 1)) (m - (k + 1))).result ≡ whole
  unfolding chain
  chain_turn s m k x h p q e =
      let left : m - k ≡ suc (m - (k + 1)) = omega arith in
      let next : s + (k + 1) ≡ suc (s + k) = omega arith in
      rw (q, p, next) (rw left at e)

  pub chain_end : (s m k : ℕ) (x : Bytes) → m ≤ k → (chain w at x s (m - k)).result ≡ x
  unfolding chain
  chain_end s m k x h =
      let e : m - k ≡ 0 = omega arith in
      rw e

  -- A chain makes as many F calls as it takes steps.
  pub chain_calls : (x : Bytes) (i s : ℕ) → s ≡ count (of F) (chain w at x i s).calls
  unfolding is
  chain_calls x i s = sym (chain_count w (of F) at x i s ∙ mul-one s)

-- ---- The chains of one leaf

module _ (w : Hashes) (l t p : ℕ) (sk : Bytes) where
  -- The own value at a position: the secret value, and then the chain.
  pub own_made : (c s : ℕ) {a x y : Bytes} → a ≡ address (chain_secret l t p c) → x ≡ w.hash PRF a sk
      → y ≡ (chain w (chain_step l t p c) x 0 s).result → y ≡ own_chain w l t p sk c s
  unfolding own_chain
  own_made c s e f g = rw (f, e) at g

  -- A turn of what is shown: chain i's value, and then the rest.
  pub shown_turn : (ds : List ℕ) (i : ℕ) (front ys : Bytes) {whole : Bytes} → i < length ds
      → ys ≡ own_chain w l t p sk i (get_or ds i 0) → front ++ (shown w l t p sk i (drop i ds)).result ≡ whole
      → (front ++ ys) ++ (shown w l t p sk (i + 1) (drop (i + 1) ds)).result ≡ whole
  shown_turn ds i front ys h e q =
      rw (
        append_assoc,
        e,
        add-one i,
        ← shown_cons w l t p sk i (get_or ds i 0) (drop (suc i) ds),
        ← drop-cons ds i 0 h,
      ) q

  pub shown_end : (ds : List ℕ) (i : ℕ) (out : Bytes) {whole : Bytes} → length ds ≤ i
      → out ++ (shown w l t p sk i (drop i ds)).result ≡ whole → out ≡ whole
  shown_end ds i out h q = rw (drop_of_length-le ds h, shown_nil w l t p sk i, append-nil) at q
