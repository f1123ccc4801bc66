-- The laws of chains and of one-time seals: steps add up, so a shown value walks on to its own end.
-- Assumes nothing.
use mathlib.Core.Path.{◌≡◌, refl, sym, ap, ◌∙◌}
use mathlib.Core.List.{List, [], ◌∷◌, ◌++◌}
use Prim.Native.Nat.{ℕ, zero, suc, ◌+◌, ◌-◌, ◌*◌, ◌<◌}
use native.Mathlib.Nat.{zero-mul, zero-add, suc-add, add-suc, add-zero}
use native.Mathlib.Omega.{arith}
use lib.ListN.{length, get_or, length-append}
use lib.Seq.{take_at, drop_at}
use Rattle.lists.proofs.Parts.{piece_suc}
use Rattle.lists.specs.Below.{Below}
use Rattle.rules.specs.Places.{Bytes, IsBytes, Place, chain_step, chain_ends, chain_secret, address}
use Rattle.rules.specs.Calls.{F, T, PRF, Hashes}
use Rattle.rules.specs.Chains.{chains, chain_digits, chain, ends, leaf, shown, walk, leaf_from, own_chain}
use Rattle.rules.specs.Keys.{piece}
use Rattle.rules.proofs.ChecksumLaws.{chain_digits_below, length-chain_digits}

-- ---- One chain

module _ (w : Hashes) (at : ℕ → Place) where
  -- A value of n bytes stays one.
  pub chain_sized : (x : Bytes) (i s : ℕ) → IsBytes w.n x → IsBytes w.n (chain w at x i s).result
  unfolding chain
  chain_sized x i zero h = h
  chain_sized x i (suc s) h = chain_sized (w.hash F (address (at i)) x) (suc i) s (w.sized F (address (at i)) x)

  pub chain_long : (x : Bytes) (i s : ℕ) → length x ≡ w.n → length (chain w at x i s).result ≡ w.n
  unfolding chain
  chain_long x i zero h = h
  chain_long x i (suc s) h =
      chain_long (w.hash F (address (at i)) x) (suc i) s (w.sized F (address (at i)) x).long

  -- s steps, and then r more.
  pub chain_add : (x : Bytes) (i s r : ℕ)
      → (chain w at x i (s + r)).result ≡ (chain w at (chain w at x i s).result (i + s) r).result
  unfolding chain
  chain_add x i zero r = rw (zero-add r, add-zero i)
  chain_add x i (suc s) r =
      rw (suc-add s r, add-suc i s, ← suc-add i s) (chain_add (w.hash F (address (at i)) x) (suc i) s r)

-- ---- The chains of one leaf: layer l, tree t, key pair p

pub leaf_from_sized : (w : Hashes) (l t p : ℕ) (sig M : Bytes) → IsBytes w.n (leaf_from w l t p sig M).result
unfolding leaf_from
leaf_from_sized w l t p sig M = w.sized T _ _

module _ (w : Hashes) (l t p : ℕ) (sk : Bytes) where
  -- The secret value of chain c.
  unfoldable pub secret_of : ℕ → Bytes
  secret_of c = w.hash PRF (address (chain_secret l t p c)) sk

  pub own_chain_sized : (c s : ℕ) → IsBytes w.n (own_chain w l t p sk c s)
  unfolding own_chain
  own_chain_sized c s = chain_sized w (chain_step l t p c) _ 0 s (w.sized PRF (address (chain_secret l t p c)) sk)

  pub own_long : (c s : ℕ) → length (own_chain w l t p sk c s) ≡ w.n
  own_long c s = (own_chain_sized c s).long

  -- What is shown and where the chains end, chain by chain.
  pub shown_nil : (c : ℕ) → (shown w l t p sk c []).result ≡ []
  unfolding shown
  shown_nil c = refl

  pub shown_cons : (c d : ℕ) (ds : List ℕ)
      → (shown w l t p sk c (d ∷ ds)).result ≡ own_chain w l t p sk c d ++ (shown w l t p sk (suc c) ds).result
  unfolding shown own_chain
  shown_cons c d ds = refl

  pub ends_suc : (c k : ℕ)
      → (ends w l t p sk c (suc k)).result ≡ own_chain w l t p sk c 15 ++ (ends w l t p sk (suc c) k).result
  unfolding ends own_chain
  ends_suc c k = refl

  pub length-shown : (c : ℕ) (ds : List ℕ) → length (shown w l t p sk c ds).result ≡ length ds * w.n
  length-shown c [] = ap length (shown_nil c) ∙ sym (zero-mul w.n)
  length-shown c (d ∷ ds) =
      ap length (shown_cons c d ds) ∙ length-append (own_chain w l t p sk c d) _
      ∙ omega (arith, own_long c d, length-shown (suc c) ds)

  -- From the own value at d, 15 - d steps lead to the own end.
  own_end : (c d : ℕ) → d < 16
      → (chain w (chain_step l t p c) (own_chain w l t p sk c d) d (15 - d)).result ≡ own_chain w l t p sk c 15
  unfolding own_chain secret_of
  own_end c d h =
      rw (zero-add d) at (sym (chain_add w (chain_step l t p c) (secret_of c) 0 d (15 - d)))
      ∙ ap (own_chain w l t p sk c) (omega arith)

  -- Acceptance: the ends that a seal leads to are the key's ends.
  walk_shown : (c : ℕ) (ds : List ℕ) → Below 16 ds
      → (walk w l t p c ds (shown w l t p sk c ds).result).result ≡ (ends w l t p sk c (length ds)).result
  unfolding walk ends
  walk_shown c [] b = refl
  walk_shown c (d ∷ ds) b =
      rw (
        shown_cons c d ds,
        ends_suc c (length ds),
        take_at (own_chain w l t p sk c d) (shown w l t p sk (suc c) ds).result w.n (own_long c d),
        drop_at (own_chain w l t p sk c d) (shown w l t p sk (suc c) ds).result w.n (own_long c d),
        own_end c d (b 0),
        walk_shown (suc c) ds (λ i. b (suc i)),
      )

  -- Chain j of what is shown from chain c on.
  pub shown_at : (c : ℕ) (ds : List ℕ) (j : ℕ) → j < length ds
      → piece w.n j (shown w l t p sk c ds).result ≡ own_chain w l t p sk (c + j) (get_or ds j 0)
  shown_at c [] j h = absurd (omega arith)
  shown_at c (d ∷ ds) zero h =
      rw (zero-mul w.n, shown_cons c d ds, add-zero c)
      (take_at (own_chain w l t p sk c d) (shown w l t p sk (suc c) ds).result w.n (own_long c d))
  shown_at c (d ∷ ds) (suc j) h =
      rw (
        shown_cons c d ds,
        piece_suc w.n j (own_chain w l t p sk c d) (shown w l t p sk (suc c) ds).result (own_long c d),
        add-suc c j,
        ← suc-add c j,
      )
      (shown_at (suc c) ds j (omega arith))

  -- ---- The leaf

  pub leaf_is :
      (leaf w l t p sk).result ≡ w.hash T (address (chain_ends l t p)) (ends w l t p sk 0 (chains w.n)).result
  unfolding leaf
  leaf_is = refl

  pub leaf_sized : IsBytes w.n (leaf w l t p sk).result
  unfolding leaf
  leaf_sized = w.sized T _ _

  pub leaf_accepts : (M : Bytes)
      → (leaf_from w l t p (shown w l t p sk 0 (chain_digits w.n M)).result M).result ≡ (leaf w l t p sk).result
  unfolding leaf_from
  leaf_accepts M =
      rw (leaf_is, walk_shown 0 (chain_digits w.n M) (chain_digits_below w.n M), length-chain_digits w.n M)
