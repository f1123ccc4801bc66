-- To finish the stream is to feed the bytes of 1111 and pad10*1, since the bits of the padding, gathered to bytes, are
-- 0x1f, zeros and 0x80 up to the block's end, or 0x9f alone.
-- Assumes nothing.
use mathlib.Core.Path.{◌≡◌, refl, sym, ap, ap₂, ◌∙◌, subst}
use Prim.Native.Nat.{ℕ, zero, suc, ◌+◌, ◌-◌, ◌*◌, ◌/◌, ◌%◌, ◌^◌, ◌<◌, ◌≤◌}
use mathlib.Core.List.{List, [], ◌∷◌, ◌++◌, map, append_assoc}
use native.Mathlib.Omega.{arith}
use native.Mathlib.Nat.{zero-mul, add-zero, zero-add, lt_of_not-le, mod-eq_of_lt, mod_self, mod-lt, mod-mod}
use native.Mathlib.Nat.{mod-add-mod, div-add-mod'}
use native.Mathlib.Decide.{dec_le}
use lib.Arith.{digits_mod}
use lib.ListN.{get_or, length, set, replicate, length-append, length-replicate, replicate-append-replicate, get_or-map}
use lib.Seq.{set-get_or}
use lib.Bits.{bit_xor, xor_zero_r}
use Rattle.lists.specs.Below.{Below}
use Rattle.lists.proofs.Below.{below_cons, below_append, below_replicate, below_test}
use Rattle.shake.specs.Shake.{suffix}
use Rattle.sponge.specs.Sponge.{digits, number, spread, gather, pad, padded}
use Rattle.sponge.specs.Stream.{Sponge, Rate, sponge, mixed, turn, step, put, feed, empty, close, finish}
use Rattle.sponge.proofs.Stream.{turn_no, turn_yes, feed_append}
use Rattle.sponge.proofs.Lanes.{set_twice}

-- The n + 1 bytes that end a block.
unfoldable pub padding : ℕ → List ℕ
padding zero = 0x9f ∷ []
padding (suc n) = 0x1f ∷ replicate n 0 ++ 0x80 ∷ []

-- It is that long.
pub length_padding : (n : ℕ) → length (padding n) ≡ suc n
unfolding padding
length_padding zero = refl
length_padding (suc n) = simp (length-append, length-replicate) (omega arith)

-- It is bytes.
pub below_padding : (n : ℕ) → Below 256 (padding n)
unfolding padding
below_padding zero = below_test 256 (0x9f ∷ []) (omega arith) tt
below_padding (suc n) =
    below_cons 256 0x1f (replicate n 0 ++ 0x80 ∷ []) (omega arith)
    (below_append 256 (replicate n 0) (0x80 ∷ []) (below_replicate 256 n 0 (omega arith) (omega arith))
    (below_test 256 (0x80 ∷ []) (omega arith) tt))

-- ---- The stream

module _ (r : ℕ) where
  turn_at : 0 < r → (k : Sponge) → k.at ≤ r → (turn r k).at ≡ k.at % r
  turn_at p k h =
      elim (dec_le r k.at) [
        | yes g ↦ let e : k.at ≡ r = omega arith in
            ap (λ (t : Sponge). t.at) (turn_yes r k g) ∙ sym (ap (λ (n : ℕ). n % r) e ∙ mod_self r)
        | no g ↦ ap (λ (t : Sponge). t.at) (turn_no r k (lt_of_not-le g)) ∙ sym (mod-eq_of_lt (lt_of_not-le g))
      ]

  turn_below : 0 < r → (k : Sponge) → k.at ≤ r → (turn r k).at < r
  turn_below p k h = rw (turn_at p k h) (mod-lt k.at p)

  -- The place after m.
  place : 0 < r → (m : List ℕ) (k : Sponge) → k.at ≤ r → (turn r (feed r k m)).at ≡ (k.at + length m) % r
  unfolding feed put step
  place p [] k h = turn_at p k h ∙ ap (λ (n : ℕ). n % r) (sym (add-zero k.at))
  place p (b ∷ m) k h =
      let e : k.at % r + 1 + length m ≡ k.at % r + suc (length m) = omega arith in
      let g = turn_below p k h in
      place p m (put r k b) (omega arith)
      ∙ ap (λ (n : ℕ). (n + 1 + length m) % r) (turn_at p k h)
      ∙ ap (λ (n : ℕ). n % r) e
      ∙ mod-add-mod k.at r (suc (length m))

  within : 0 < r → (m : List ℕ) (k : Sponge) → k.at ≤ r → (feed r k m).at ≤ r
  unfolding feed put step
  within p [] k h = h
  within p (b ∷ m) k h =
      let g = turn_below p k h in
      within p m (put r k b) (omega arith)

  zeros : (n : ℕ) (s : List ℕ) (p : ℕ) → p + n ≤ r → feed r (sponge s p) (replicate n 0) ≡ sponge s (p + n)
  unfolding feed put step mixed
  zeros zero s p h = ap (sponge s) (sym (add-zero p))
  zeros (suc n) s p h =
      let e : p + 1 + n ≡ p + suc n = omega arith in
      ap (λ (k : Sponge). feed r (step 0 k) (replicate n 0)) (turn_no r (sponge s p) (omega arith))
      ∙ ap (λ (t : List ℕ). feed r (sponge t (p + 1)) (replicate n 0))
      (ap (λ (x : ℕ). set s (p / 8) (bit_xor (get_or s (p / 8) 0) x)) (zero-mul (2 ^ (8 * (p % 8))))
      ∙ ap (set s (p / 8)) (xor_zero_r (get_or s (p / 8) 0)) ∙ set-get_or s (p / 8) 0)
      ∙ zeros n s (p + 1) (omega arith) ∙ ap (sponge s) e

  ended : (n : ℕ) (s : List ℕ) (p : ℕ) → p + n + 2 ≡ r
      → feed r (step 0x1f (sponge s p)) (replicate n 0 ++ 0x80 ∷ []) ≡ close r (sponge s p)
  unfolding step close feed put
  ended n s p h =
      let t : List ℕ = mixed s p 0x1f in
      let e : p + 1 + n ≡ r - 1 = omega arith in
      let f : r - 1 + 1 ≡ r = omega arith in
      feed_append r (sponge t (p + 1)) (replicate n 0) (0x80 ∷ [])
      ∙ ap (λ (k : Sponge). feed r k (0x80 ∷ [])) (zeros n t (p + 1) (omega arith) ∙ ap (sponge t) e)
      ∙ ap (step 0x80) (turn_no r (sponge t (r - 1)) (omega arith))
      ∙ ap (sponge (mixed t (r - 1) 0x80)) f

  ended_at_once : r % 8 ≡ 0 → (s : List ℕ) (p : ℕ) → p + 1 ≡ r → step 0x9f (sponge s p) ≡ close r (sponge s p)
  unfolding step close mixed
  ended_at_once w s p h =
      let e : r - 1 ≡ p = omega arith in
      let o : 8 * (p % 8) ≡ 56 = omega arith in
      rw (e, h, o) (ap (λ (t : List ℕ). sponge t r) (sym (set_twice s (p / 8) (0x1f * 2 ^ 56) (0x80 * 2 ^ 56))))

  closed : r % 8 ≡ 0 → (k : Sponge) (q : ℕ) → (turn r k).at + q + 1 ≡ r → close r (turn r k) ≡ feed r k (padding q)
  unfolding padding feed put
  closed w k zero e = sym (ended_at_once w (turn r k).lanes (turn r k).at (omega arith))
  closed w k (suc n) e = sym (ended n (turn r k).lanes (turn r k).at (omega arith))

  -- To finish a message is to feed its padding.
  pub finished : Rate r → (m : List ℕ) → finish r (feed r empty m) ≡ feed r empty (m ++ padding (r - 1 - length m % r))
  unfolding finish
  finished h m =
      let e : (turn r (feed r empty m)).at ≡ length m % r =
      place h.1 m empty (omega arith) ∙ ap (λ (n : ℕ). n % r) (zero-add (length m)) in
      let g : length m % r < r = mod-lt (length m) h.1 in
      closed h.0 (feed r empty m) (r - 1 - length m % r) (omega arith)
      ∙ sym (feed_append r empty m (padding (r - 1 - length m % r)))

-- ---- The bits

-- Of each number its low byte.
abbrev pub low : List ℕ → List ℕ
low = map (λ x. x % 256)

pub below_low : (m : List ℕ) → Below 256 (low m)
below_low m i =
    subst (λ (x : ℕ). x < 256) (sym (get_or-map (λ (x : ℕ). x % 256) m i 0)) (mod-lt (get_or m i 0) (omega arith))

-- Only the low bytes of a message go in.
pub feed_low : (r : ℕ) (m p : List ℕ) (k : Sponge) → feed r k (low m ++ p) ≡ feed r k (m ++ p)
unfolding feed put
feed_low r [] p k = refl
feed_low r (b ∷ m) p k =
    ap (λ (x : ℕ). feed r (step x (turn r k)) (low m ++ p)) (mod-mod b 256) ∙ feed_low r m p (put r k b)

-- The bits of bytes, gathered again.
gather_bytes : (m p : List ℕ) (n : ℕ) → gather 1 8 (length m + n) (spread 1 8 m ++ p) ≡ low m ++ gather 1 8 n p
unfolding gather spread digits number
gather_bytes [] p n = ap (λ (k : ℕ). gather 1 8 k p) (zero-add n)
gather_bytes (b ∷ m) p n =
    let e : suc (length m) + n ≡ suc (length m + n) = omega arith in
    rw e (ap₂ (λ (x : ℕ) (l : List ℕ). x ∷ l) (omega arith) (gather_bytes m p n))

length-bits : (m : List ℕ) → length (spread 1 8 m) ≡ 8 * length m
unfolding spread digits
length-bits [] = refl
length-bits (b ∷ m) =
    let e = length-bits m in
    omega arith

gather_zeros : (n : ℕ) → gather 1 8 (suc n) (replicate (8 * n + 7) 0 ++ 1 ∷ []) ≡ replicate n 0 ++ 0x80 ∷ []
unfolding gather number
gather_zeros zero = refl
gather_zeros (suc n) =
    let e : 8 * suc n + 7 ≡ 8 + (8 * n + 7) = omega arith in
    rw (e, ← replicate-append-replicate {A = ℕ} 8 (8 * n + 7) 0) (ap (λ (l : List ℕ). 0 ∷ l) (gather_zeros n))

gather_padding : (q : ℕ) → gather 1 8 (suc q) (suffix ++ (1 ∷ replicate (8 * q + 2) 0 ++ 1 ∷ [])) ≡ padding q
unfolding gather number padding suffix
gather_padding zero = refl
gather_padding (suc n) =
    let e : 8 * suc n + 2 ≡ 3 + (8 * n + 7) = omega arith in
    rw (e, ← replicate-append-replicate {A = ℕ} 3 (8 * n + 7) 0) (ap (λ (l : List ℕ). 0x1f ∷ l) (gather_zeros n))

-- How many zeros pad10*1 has between its ones.
zeros_between : (r n : ℕ) → 0 < r → (8 * r - (8 * n + 4 + 2) % (8 * r)) % (8 * r) ≡ 8 * (r - 1 - n % r) + 2
zeros_between r n p =
    let a : ℕ = n % r in
    let h : a < r = mod-lt n p in
    let d : n / r * r + a ≡ n = div-add-mod' n r in
    let e : 8 * n + 4 + 2 ≡ n / r * (8 * r) + (8 * a + 6) = omega arith in
    let f : (8 * n + 4 + 2) % (8 * r) ≡ 8 * a + 6 = ap (λ (x : ℕ). x % (8 * r)) e ∙ digits_mod (n / r) (omega arith) in
    let g : 8 * r - (8 * a + 6) ≡ 8 * (r - 1 - a) + 2 = omega arith in
    ap (λ (x : ℕ). (8 * r - x) % (8 * r)) f ∙ ap (λ (x : ℕ). x % (8 * r)) g ∙ mod-eq_of_lt (omega arith)

-- The ones of pad10*1 with j zeros between them.
tail : ℕ → List ℕ
tail j = 1 ∷ replicate j 0 ++ 1 ∷ []

length_tail : (j : ℕ) → length (tail j) ≡ j + 2
unfolding tail
length_tail j = simp (length-append, length-replicate) (omega arith)

-- A message with the suffix and its padding, in bytes.
pub padded_bytes : (r : ℕ) → 0 < r → (m : List ℕ)
    → padded r (spread 1 8 m ++ suffix) ≡ low m ++ padding (r - 1 - length m % r)
unfolding padded pad tail suffix
padded_bytes r p m =
    let b : List ℕ = spread 1 8 m in
    let q : ℕ = r - 1 - length m % r in
    let l : length (b ++ suffix) ≡ 8 * length m + 4 = length-append b suffix ∙ ap (λ (x : ℕ). x + 4) (length-bits m) in
    let j : (8 * r - (length (b ++ suffix) + 2) % (8 * r)) % (8 * r) ≡ 8 * q + 2 =
    ap (λ (x : ℕ). (8 * r - (x + 2) % (8 * r)) % (8 * r)) l ∙ zeros_between r (length m) p in
    let t : List ℕ = tail (8 * q + 2) in
    let u : length (b ++ suffix ++ t) / 8 ≡ length m + suc q =
    omega (arith, length-append (b ++ suffix) t, length_tail (8 * q + 2)) in
    ap (λ (n : ℕ). gather 1 8 (length (b ++ suffix ++ tail n) / 8) (b ++ suffix ++ tail n)) j
    ∙ ap₂ (gather 1 8) u (append_assoc b suffix t) ∙ gather_bytes m (suffix ++ t) (suc q)
    ∙ ap (λ (x : List ℕ). low m ++ x) (gather_padding q)
