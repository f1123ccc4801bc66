-- One-time seals: chain digits, chains, a leaf, what a seal shows, and the leaf from a seal (FIPS 205, section 5).
-- Assumes nothing.
use Rattle.std.specs.Prelude.{cond, List, [], ◌∷◌, ◌++◌, ℕ, zero, suc, ◌+◌, ◌-◌, ◌*◌, leb, take, drop}
use Rattle.rules.specs.Digits.{base2b, to_byte}
use Rattle.rules.specs.Places.{Bytes, Place, chain_step, chain_ends, chain_secret, address}
use Rattle.rules.specs.Calls.{F, T, PRF, Hashes, Run, return, ◌>>=◌, ask}

-- Algorithm 1, gen_len2, lines 6 to 10, for digits of base 16: from `len2` digits on, whose numbers lie below
-- `capacity`, the number of digits that numbers up to `most` have. There are at most `turns` turns.
unfoldable pub more_digits : (turns len2 capacity most : ℕ) → ℕ
more_digits zero len2 capacity most = len2
more_digits (suc turns) len2 capacity most =
    cond (leb capacity most) (more_digits turns (suc len2) (capacity * 16) most) len2

-- Algorithm 1: the digits of the checksum of a value of n bytes, which is at most 15 for each of 2n digits.
unfoldable pub checksum_digits : (n : ℕ) → ℕ
checksum_digits n = more_digits (30 * n) 1 16 (30 * n)

-- Equation 5.4, len: a value of n bytes has 2n digits of its own and 3 of its checksum. `Legal` asks that algorithm 1
-- gives 3.
abbrev pub chains : (n : ℕ) → ℕ
chains n = 2 * n + 3

-- The sum of (15 - digit): the checksum of a value's own digits, and the steps that a check walks for all of them.
unfoldable pub steps : List ℕ → ℕ
steps [] = 0
steps (d ∷ ds) = 15 - d + steps ds

-- Algorithm 7, wots_sign, lines 1 to 5: the own digits of a value M of n bytes, and their checksum.
unfoldable pub own_digits : (n : ℕ) (M : Bytes) → List ℕ
own_digits n M = base2b M 4 (2 * n)

unfoldable pub checksum : (n : ℕ) (M : Bytes) → ℕ
checksum n M = steps (own_digits n M)

-- Algorithm 7, lines 6 and 7: all digits. The checksum is moved up by four bits and read from two bytes.
unfoldable pub chain_digits : (n : ℕ) (M : Bytes) → List ℕ
chain_digits n M = own_digits n M ++ base2b (to_byte (checksum n M * 16) 2) 4 3

module _ (w : Hashes) where
  -- Algorithm 5, chain: from x at position i, s steps.
  unfoldable pub chain : (at : ℕ → Place) (x : Bytes) (i s : ℕ) → Run Bytes
  chain at x i zero = return x
  chain at x i (suc s) = do
    y ← ask w F (at i) x
    chain at y (suc i) s

  module _ (layer tree pair : ℕ) where
    -- Algorithm 6, wots_pkGen, lines 1 to 9: the ends of `count` chains from chain c on.
    unfoldable pub ends : (sk_seed : Bytes) (c count : ℕ) → Run Bytes
    ends sk_seed c zero = return []
    ends sk_seed c (suc count) = do
      s ← ask w PRF (chain_secret layer tree pair c) sk_seed
      e ← chain (chain_step layer tree pair c) s 0 15
      es ← ends sk_seed (suc c) count
      return (e ++ es)

    -- Algorithm 6, wots_pkGen: the leaf.
    unfoldable pub leaf : (sk_seed : Bytes) → Run Bytes
    leaf sk_seed = do
      es ← ends sk_seed 0 (chains w.n)
      ask w T (chain_ends layer tree pair) es

    -- Algorithm 7, wots_sign, lines 8 to 16: what a seal shows for digits from chain c on.
    unfoldable pub shown : (sk_seed : Bytes) (c : ℕ) (digits : List ℕ) → Run Bytes
    shown sk_seed c [] = return []
    shown sk_seed c (d ∷ ds) = do
      s ← ask w PRF (chain_secret layer tree pair c) sk_seed
      v ← chain (chain_step layer tree pair c) s 0 d
      vs ← shown sk_seed (suc c) ds
      return (v ++ vs)

    -- Algorithm 8, wots_pkFromSig, lines 8 to 11: from the shown values on to the ends, for digits from chain c on.
    unfoldable pub walk : (c : ℕ) (digits : List ℕ) (sig : Bytes) → Run Bytes
    walk c [] sig = return []
    walk c (d ∷ ds) sig = do
      e ← chain (chain_step layer tree pair c) (take w.n sig) d (15 - d)
      es ← walk (suc c) ds (drop w.n sig)
      return (e ++ es)

    -- Algorithm 8, wots_pkFromSig: the leaf that the shown values lead to for the value M.
    unfoldable pub leaf_from : (sig M : Bytes) → Run Bytes
    leaf_from sig M = do
      es ← walk 0 (chain_digits w.n M) sig
      ask w T (chain_ends layer tree pair) es

    -- The key's own value at position s of chain c.
    unfoldable pub own_chain : (sk_seed : Bytes) (c s : ℕ) → Bytes
    own_chain sk_seed c s =
        let secret : Bytes = w.hash PRF (address (chain_secret layer tree pair c)) sk_seed in
        (chain (chain_step layer tree pair c) secret 0 s).result
