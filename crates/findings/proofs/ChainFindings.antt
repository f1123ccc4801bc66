-- A walk that ends at the key's own chain ends started at the key's own values, or two calls collide: chains are looked
-- at from the first on, each from its end down.
-- Assumes nothing.
use mathlib.Core.Path.{◌≡◌, refl, sym, ap, ap₂, ◌∙◌, subst}
use mathlib.Core.Logic.{◌⊎◌, inl}
use mathlib.Core.List.Memᴰ
use mathlib.Core.List.{List, [], ◌∷◌, ◌++◌, Memᴰ}
use Prim.Native.Nat.{ℕ, zero, suc, ◌+◌, ◌-◌, ◌*◌, ◌≤◌, ◌<◌}
use native.Mathlib.Nat.{zero-mul, suc-mul, zero-add, suc-add, add-suc, add-zero}
use native.Mathlib.Omega.{arith}
use native.Mathlib.Numerals.{add-one}
use lib.ListN.{length, take, drop, length-drop, take-append-drop}
use lib.Seq.{length-take-le}
use Rattle.lists.proofs.Parts.{append_inj, nil_of_length}
use Rattle.lists.specs.Below.{Below}
use Rattle.rules.specs.Places.{Bytes, Place, chain_step, chain_ends, address}
use Rattle.rules.specs.Calls.{F, T, Hashes, Run, Call, call_of}
use Rattle.rules.specs.Chains.{chains, chain_digits, chain, ends, leaf, shown, walk, leaf_from, own_chain}
use Rattle.findings.specs.Findings.{Collision, an_f, a_t}
use Rattle.rules.proofs.ChecksumLaws.{chain_digits_below, length-chain_digits}
use Rattle.rules.proofs.ChainLaws.{chain_long, chain_add, secret_of, own_long, shown_nil, shown_cons, ends_suc, leaf_is}
use Rattle.findings.proofs.FindingLaws.{Owns, before, after, same_input, then, found}

-- ---- One chain

module _ (w : Hashes) (at : ℕ → Place) where
  -- One more step at the end.
  chain_snoc : (x : Bytes) (s : ℕ)
      → (chain w at x 0 (suc s)).result ≡ w.hash F (address (at s)) (chain w at x 0 s).result
  unfolding chain
  chain_snoc x s =
      ap (λ (j : ℕ). (chain w at x 0 j).result) (sym (add-one s)) ∙ chain_add w at x 0 s 1
      ∙ ap (λ (j : ℕ). w.hash F (address (at j)) (chain w at x 0 s).result) (zero-add s)

  -- The step j of a chain of s steps is one of its calls.
  chain_call : (x : Bytes) (i s j : ℕ) → j < s
      → Memᴰ (call_of F (at (i + j)) (chain w at x i j).result) (chain w at x i s).calls
  unfolding chain
  chain_call x i zero j h = absurd (omega arith)
  chain_call x i (suc s) zero h = rw (add-zero i) (Memᴰ.head refl)
  chain_call x i (suc s) (suc j) h =
      Memᴰ.tail (subst (λ (k : ℕ). Memᴰ (call_of F (at k) (chain w at y (suc i) j).result)
      (chain w at y (suc i) s).calls) (suc-add i j ∙ sym (add-suc i j)) (chain_call y (suc i) s j (omega arith)))
    where
      y : Bytes
      y = w.hash F (address (at i)) x

  -- A walk that ends at the own chain's value started at one, or two calls collide: looked for from the end down.
  module _ (Own : Call → Type 0) (secret : Bytes) (top : ℕ) (owns : Owns Own (chain w at secret 0 top)) where
    pub chain_shows : (x : Bytes) (i s : ℕ) → i + s ≤ top
        → (chain w at x i s).result ≡ (chain w at secret 0 (i + s)).result
        → (x ≡ (chain w at secret 0 i).result) ⊎ Collision w Own (chain w at x i s).calls
    unfolding chain
    chain_shows x i zero b e = inl (e ∙ ap (λ (j : ℕ). (chain w at secret 0 j).result) (add-zero i))
    chain_shows x i (suc s) b e =
        then (found (after (call_of F (at i) x ∷ [])) (chain_shows y (suc i) s (omega arith) (e ∙ one_more))) (λ q.
        found (before (chain w at y (suc i) s).calls)
        (same_input w Own an_f (at i) x own own_call (q ∙ chain_snoc secret i)))
      where
        y : Bytes
        y = w.hash F (address (at i)) x

        own : Bytes
        own = (chain w at secret 0 i).result

        own_call : Own (call_of F (at i) own)
        own_call =
            subst (λ (j : ℕ). Own (call_of F (at j) own)) (zero-add i)
            (owns _ (chain_call secret 0 top i (omega arith)))

        one_more : (chain w at secret 0 (i + suc s)).result ≡ (chain w at secret 0 (suc i + s)).result
        one_more = ap (λ (j : ℕ). (chain w at secret 0 j).result) (add-suc i s ∙ sym (suc-add i s))

-- ---- The chains of one leaf: layer l, tree t, key pair p

module _ (w : Hashes) (l t p : ℕ) (sk : Bytes) where
  -- The run of the own chain c, to its end.
  own_run : ℕ → Run Bytes
  own_run c = chain w (chain_step l t p c) (secret_of w l t p sk c) 0 15

  module _ (Own : Call → Type 0) where
    -- The first chain's calls, and those of the other chains, are calls of all.
    owns_first : (c k : ℕ) → Owns Own (ends w l t p sk c (suc k)) → Owns Own (own_run c)
    unfolding ends own_run secret_of
    owns_first c k o x m = o x (Memᴰ.tail (Memᴰ.append_left _ m))

    owns_rest : (c k : ℕ) → Owns Own (ends w l t p sk c (suc k)) → Owns Own (ends w l t p sk (suc c) k)
    unfolding ends own_run secret_of
    owns_rest c k o x m = o x (Memᴰ.tail (Memᴰ.append_right (own_run c).calls (Memᴰ.append_left [] m)))

    one_shows : (c d : ℕ) (x : Bytes) → Owns Own (own_run c) → d < 16
        → (chain w (chain_step l t p c) x d (15 - d)).result ≡ own_chain w l t p sk c 15
        → (x ≡ own_chain w l t p sk c d) ⊎ Collision w Own (chain w (chain_step l t p c) x d (15 - d)).calls
    unfolding own_chain own_run secret_of
    one_shows c d x o h e =
        chain_shows w (chain_step l t p c) Own (secret_of w l t p sk c) 15 o x d (15 - d) (omega arith)
        (e ∙ ap (λ (s : ℕ). (chain w (chain_step l t p c) (secret_of w l t p sk c) 0 s).result) to_end)
      where
        to_end : 15 ≡ d + (15 - d)
        to_end = omega arith

    -- Chains are looked at from the first on.
    walk_shows : (c : ℕ) (ds : List ℕ) (sig : Bytes) → Below 16 ds → Owns Own (ends w l t p sk c (length ds))
        → length sig ≡ length ds * w.n → (walk w l t p c ds sig).result ≡ (ends w l t p sk c (length ds)).result
        → (sig ≡ (shown w l t p sk c ds).result) ⊎ Collision w Own (walk w l t p c ds sig).calls
    unfolding walk
    walk_shows c [] sig b o long e = inl (nil_of_length sig (long ∙ zero-mul w.n) ∙ sym (shown_nil w l t p sk c))
    walk_shows c (d ∷ ds) sig b o long e =
        then (found (before (rest.calls ++ []))
        (one_shows c d (take w.n sig) (owns_first c (length ds) o) (b 0) both.0)) (λ q.
        then (found (λ x. after one.calls (before [] x))
        (walk_shows (suc c) ds (drop w.n sig) (λ i. b (suc i)) (owns_rest c (length ds) o)
        (simp length-drop (omega (arith, long, suc-mul (length ds) w.n))) both.1)) (λ s.
        inl (sym (take-append-drop w.n sig) ∙ ap₂ ◌++◌ q s ∙ sym (shown_cons w l t p sk c d ds))))
      where
        one : Run Bytes
        one = chain w (chain_step l t p c) (take w.n sig) d (15 - d)

        rest : Run Bytes
        rest = walk w l t p (suc c) ds (drop w.n sig)

        front : length (take w.n sig) ≡ w.n
        front = length-take-le w.n sig (omega (arith, long, suc-mul (length ds) w.n))

        both : (one.result ≡ own_chain w l t p sk c 15) × (rest.result ≡ (ends w l t p sk (suc c) (length ds)).result)
        both =
            append_inj (chain_long w (chain_step l t p c) (take w.n sig) d (15 - d) front) (own_long w l t p sk c 15)
            (e ∙ ends_suc w l t p sk c (length ds))

    owns_ends : Owns Own (leaf w l t p sk) → Owns Own (ends w l t p sk 0 (chains w.n))
    unfolding leaf
    owns_ends o x m = o x (Memᴰ.append_left _ m)

    own_compress : Owns Own (leaf w l t p sk)
        → Own (call_of T (chain_ends l t p) (ends w l t p sk 0 (chains w.n)).result)
    unfolding leaf
    own_compress o = o _ (Memᴰ.append_right (ends w l t p sk 0 (chains w.n)).calls (Memᴰ.head refl))

    -- What leads to the own leaf is what the key shows for that value, or two calls collide: T first, then the chains.
    pub leaf_shows : (sig M : Bytes) → Owns Own (leaf w l t p sk) → length sig ≡ chains w.n * w.n
        → (leaf_from w l t p sig M).result ≡ (leaf w l t p sk).result
        → (sig ≡ (shown w l t p sk 0 (chain_digits w.n M)).result) ⊎ Collision w Own (leaf_from w l t p sig M).calls
    unfolding leaf_from
    leaf_shows sig M o long e =
        then (found (after run.calls)
        (same_input w Own a_t (chain_ends l t p) run.result _ (own_compress o) (e ∙ leaf_is w l t p sk))) (λ q.
        found (before (call_of T (chain_ends l t p) run.result ∷ []))
        (walk_shows 0 (chain_digits w.n M) sig (chain_digits_below w.n M) (rw many (owns_ends o))
        (long ∙ ap (λ (x : ℕ). x * w.n) (sym many)) (q ∙ ap (λ (x : ℕ). (ends w l t p sk 0 x).result) (sym many))))
      where
        run : Run Bytes
        run = walk w l t p 0 (chain_digits w.n M) sig

        many : length (chain_digits w.n M) ≡ chains w.n
        many = length-chain_digits w.n M
