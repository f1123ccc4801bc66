-- The byte stream is FIPS 202's sponge by blocks, by induction on a block's lanes and on the blocks: eight bytes are a
-- lane, a rate's lanes a block, and a turn after each block its permutation.
-- Assumes nothing.
use mathlib.Core.Path.{◌≡◌, refl, sym, ap, ap₂, ◌∙◌, subst⁻¹}
use Prim.Native.Nat.{ℕ, zero, suc, ◌+◌, ◌-◌, ◌*◌, ◌/◌, ◌%◌, ◌^◌, ◌<◌, ◌≤◌}
use mathlib.Core.List.{List, [], ◌∷◌, ◌++◌}
use native.Mathlib.Omega.{arith}
use native.Mathlib.Nat.{add-zero, zero-add, zero-mul, one-mul, suc-mul, mul-div_cancel, div-add-mod', mod-lt}
use lib.Bits.{bit_xor, xor_zero_r}
use lib.ListN.{get_or, length, set, take, drop, replicate, length-append, length-take, length-drop, length-map}
use lib.ListN.{take-append-drop}
use lib.Seq.{set-append_seam, get_or-append_seam, append_snoc, take-append-le, drop-append-le, take-append-add}
use Rattle.lists.specs.Below.{Below}
use Rattle.lists.proofs.Below.{below_take, below_drop, below_append}
use Rattle.keccak.specs.Keccak.{keccak_f}
use Rattle.shake.specs.Shake.{suffix}
use Rattle.sponge.specs.Sponge.{digits, number, spread, gather, padded, ◌⊕◌, absorb, squeeze, keccak}
use Rattle.sponge.specs.Stream.{Sponge, sponge, turn, feed, empty, finish, draw}
use Rattle.sponge.proofs.Lanes.{lane_in, lane_out}
use Rattle.shake.proofs.Pad.{low, padding, length_padding, below_padding, below_low, feed_low, finished, padded_bytes}
use Rattle.keccak.proofs.Rounds.{length-keccak_f}
use Rattle.sponge.proofs.Stream.{turn_no, turn_yes, feed_append, turn_feed, draw_add, drawn_in, draw_turn, draw_front}

-- ---- Zeros add nothing

abbrev zeros : ℕ → List ℕ
zeros n = replicate n 0

number_zeros : (k z : ℕ) → number 8 (take k (zeros z)) ≡ 0
unfolding number
number_zeros zero z = refl
number_zeros (suc k) zero = refl
number_zeros (suc k) (suc z) = ap (λ (x : ℕ). 0 + 2 ^ 8 * x) (number_zeros k z)

drop_zeros : (k z : ℕ) → drop k (zeros z) ≡ zeros (z - k)
drop_zeros zero z =
    let e : z ≡ z - 0 = omega arith in
    ap zeros e
drop_zeros (suc k) zero =
    let e : 0 ≡ 0 - suc k = omega arith in
    ap zeros e
drop_zeros (suc k) (suc z) =
    let e : z - k ≡ suc z - suc k = omega arith in
    drop_zeros k z ∙ ap zeros e

add_zeros : (s : List ℕ) (z : ℕ) → s ⊕ gather 8 8 (length s) (zeros z) ≡ s
unfolding ◌⊕◌ gather
add_zeros [] z = refl
add_zeros (a ∷ s) z =
    ap₂ (λ (x : ℕ) (l : List ℕ). x ∷ l)
    (ap (bit_xor a) (number_zeros 8 z) ∙ xor_zero_r a)
    (ap (λ (l : List ℕ). s ⊕ gather 8 8 (length s) l) (drop_zeros 8 z) ∙ add_zeros s (z - 8))

-- ---- A block goes in

first_lane : (a : ℕ) (s b : List ℕ) (z : ℕ) → 8 ≤ length b
    → (a ∷ s) ⊕ gather 8 8 (length (a ∷ s)) (b ++ zeros z)
    ≡ bit_xor a (number 8 (take 8 b)) ∷ (s ⊕ gather 8 8 (length s) (drop 8 b ++ zeros z))
unfolding ◌⊕◌ gather
first_lane a s b z h =
    ap₂ (λ (x l : List ℕ). bit_xor a (number 8 x) ∷ (s ⊕ gather 8 8 (length s) l)) (take-append-le 8 b (zeros z) h)
    (drop-append-le 8 b (zeros z) h)

-- The lane behind f takes eight bytes.
lane_behind : (r : ℕ) (f s : List ℕ) (a : ℕ) (b : List ℕ) → Below 256 b → length b ≡ 8 → 8 * length f + 8 ≤ r
    → feed r (sponge (f ++ a ∷ s) (8 * length f)) b
    ≡ sponge (f ++ (bit_xor a (number 8 b) ∷ []) ++ s) (8 * length (f ++ (bit_xor a (number 8 b) ∷ [])))
lane_behind r f s a b hb hl hr =
    let v : ℕ = bit_xor a (number 8 b) in
    let e : 8 * length f / 8 ≡ length f = omega arith in
    let n : 8 * length f + 8 ≡ 8 * length (f ++ (v ∷ [])) = omega (arith, length-append f (v ∷ [])) in
    lane_in r b hb hl (f ++ a ∷ s) (8 * length f) (omega arith) hr
    ∙ ap (λ (j : ℕ). sponge (set (f ++ a ∷ s) j (bit_xor (get_or (f ++ a ∷ s) j 0) (number 8 b))) (8 * length f + 8)) e
    ∙ ap (λ (x : ℕ). sponge (set (f ++ a ∷ s) (length f) (bit_xor x (number 8 b))) (8 * length f + 8))
    (get_or-append_seam f a s 0)
    ∙ ap₂ sponge (set-append_seam f a s v ∙ sym (append_snoc f v s)) n

-- The L lanes behind f take eight bytes each.
lanes_behind : (r L : ℕ) (f s b : List ℕ) (z : ℕ) → Below 256 b → length b ≡ 8 * L → L ≤ length s
    → 8 * (length f + L) ≤ r
    → feed r (sponge (f ++ s) (8 * length f)) b
    ≡ sponge (f ++ (s ⊕ gather 8 8 (length s) (b ++ zeros z))) (8 * (length f + L))
unfolding feed
lanes_behind r zero f s [] z hb hl hs hr =
    sym (ap₂ sponge (ap (λ (l : List ℕ). f ++ l) (add_zeros s z)) (ap (λ (n : ℕ). 8 * n) (add-zero (length f))))
lanes_behind r zero f s (x ∷ b) z hb hl hs hr = absurd (omega arith)
lanes_behind r (suc L) f [] b z hb hl hs hr = absurd (omega arith)
lanes_behind r (suc L) f (a ∷ s) b z hb hl hs hr =
    let t : List ℕ = take 8 b in
    let d : List ℕ = drop 8 b in
    let v : ℕ = bit_xor a (number 8 t) in
    let g : List ℕ = f ++ (v ∷ []) in
    let k : Sponge = sponge (f ++ a ∷ s) (8 * length f) in
    let lt : length t ≡ 8 = omega (arith, length-take 8 b) in
    let ld : length d ≡ 8 * L = omega (arith, length-drop 8 b) in
    let lg : length g ≡ length f + 1 = length-append f (v ∷ []) in
    let n : 8 * (length g + L) ≡ 8 * (length f + suc L) = omega arith in
    ap (feed r k) (sym (take-append-drop 8 b)) ∙ feed_append r k t d
    ∙ ap (λ (q : Sponge). feed r q d) (lane_behind r f s a t (below_take 256 8 b (omega arith) hb) lt (omega arith))
    ∙ lanes_behind r L g s d z (below_drop 256 8 b hb) ld (omega arith) (omega arith)
    ∙ ap₂ sponge
    (append_snoc f v (s ⊕ gather 8 8 (length s) (d ++ zeros z))
    ∙ ap (λ (l : List ℕ). f ++ l) (sym (first_lane a s b z (omega arith))))
    n

-- ---- Blocks come out

-- Eight bytes come out of each of the L lanes behind f.
lanes_out : (r L : ℕ) (f s : List ℕ) → L ≤ length s → 8 * (length f + L) ≤ r
    → draw r (8 * L) (sponge (f ++ s) (8 * length f)) ≡ take (8 * L) (spread 8 8 s)
unfolding draw spread digits
lanes_out r zero f s hs hr = refl
lanes_out r (suc L) f [] hs hr = absurd (omega arith)
lanes_out r (suc L) f (a ∷ s) hs hr =
    let g : List ℕ = f ++ (a ∷ []) in
    let k : Sponge = sponge (f ++ a ∷ s) (8 * length f) in
    let e : 8 * suc L ≡ 8 + 8 * L = omega arith in
    let j : 8 * length f / 8 ≡ length f = omega arith in
    let lg : length g ≡ length f + 1 = length-append f (a ∷ []) in
    let n : 8 * length f + 8 ≡ 8 * length g = omega arith in
    ap (λ (x : ℕ). draw r x k) e ∙ draw_add r 8 (8 * L) k
    ∙ ap₂ (λ (x y : List ℕ). x ++ y)
    (lane_out r (f ++ a ∷ s) (8 * length f) (omega arith) (omega arith)
    ∙ ap (λ (x : ℕ). digits 8 8 (get_or (f ++ a ∷ s) x 0)) j
    ∙ ap (digits 8 8) (get_or-append_seam f a s 0))
    (ap (draw r (8 * L))
    (drawn_in r 8 (f ++ a ∷ s) (8 * length f) (omega arith) ∙ ap₂ sponge (sym (append_snoc f a s)) n)
    ∙ lanes_out r L g s (omega arith) (omega arith))
    ∙ sym (ap (λ (x : ℕ). take x (digits 8 8 a ++ spread 8 8 s)) e
    ∙ take-append-add (digits 8 8 a) (spread 8 8 s) (8 * L))

-- ---- At a rate of L lanes

module _ (L : ℕ) (some : 0 < L) (all : L ≤ 25) where
  abbrev r : ℕ
  r = 8 * L

  block_in : (s b : List ℕ) → length s ≡ 25 → Below 256 b → length b ≡ r
      → feed r (sponge s 0) b ≡ sponge (s ⊕ gather 8 8 25 (b ++ zeros (200 - r))) r
  block_in s b hs hb hl =
      lanes_behind r L [] s b (200 - r) hb hl (omega arith) (omega arith)
      ∙ ap₂ (λ (n l : ℕ). sponge (s ⊕ gather 8 8 n (b ++ zeros (200 - r))) (8 * l)) hs (zero-add L)

  -- Whole blocks fed are absorbed.
  absorbed : (n : ℕ) (p s : List ℕ) → length s ≡ 25 → Below 256 p → length p ≡ n * r
      → turn r (feed r (sponge s 0) p) ≡ sponge (absorb r n p s) 0
  unfolding absorb feed
  absorbed zero [] s hs hp hl = turn_no r (sponge s 0) (omega arith)
  absorbed zero (x ∷ p) s hs hp hl = absurd (omega (arith, zero-mul r))
  absorbed (suc n) p s hs hp hl =
      let b : List ℕ = take r p in
      let d : List ℕ = drop r p in
      let x : List ℕ = s ⊕ gather 8 8 25 (b ++ zeros (200 - r)) in
      let m : length p ≡ n * r + r = hl ∙ suc-mul n r in
      let lb : length b ≡ r = omega (arith, length-take r p) in
      let ld : length d ≡ n * r = omega (arith, length-drop r p) in
      ap (λ (q : List ℕ). turn r (feed r (sponge s 0) q)) (sym (take-append-drop r p))
      ∙ ap (turn r) (feed_append r (sponge s 0) b d)
      ∙ ap (λ (k : Sponge). turn r (feed r k d)) (block_in s b hs (below_take 256 r p (omega arith) hp) lb)
      ∙ sym (turn_feed r (omega arith) (sponge x r) d)
      ∙ ap (λ (k : Sponge). turn r (feed r k d)) (turn_yes r (sponge x r) (omega arith))
      ∙ absorbed n d (keccak_f x) (length-keccak_f x) (below_drop 256 r p hp) ld

  -- Whole blocks drawn are squeezed.
  squeezed : (n : ℕ) (s : List ℕ) → length s ≡ 25 → draw r (suc n * r) (sponge s 0) ≡ squeeze r n s
  unfolding squeeze
  squeezed zero s hs =
      ap (λ (x : ℕ). draw r x (sponge s 0)) (one-mul r) ∙ lanes_out r L [] s (omega arith) (omega arith)
  squeezed (suc n) s hs =
      let e : suc (suc n) * r ≡ r + suc n * r = omega (arith, suc-mul (suc n) r) in
      let h : 0 < suc n * r = omega (arith, suc-mul n r) in
      ap (λ (x : ℕ). draw r x (sponge s 0)) e ∙ draw_add r r (suc n * r) (sponge s 0)
      ∙ ap₂ (λ (x y : List ℕ). x ++ y)
      (lanes_out r L [] s (omega arith) (omega arith))
      (ap (draw r (suc n * r)) (drawn_in r r s 0 (omega arith) ∙ ap (sponge s) (zero-add r))
      ∙ sym (draw_turn r (omega arith) (suc n * r) (sponge s r) h)
      ∙ ap (draw r (suc n * r)) (turn_yes r (sponge s r) (omega arith))
      ∙ squeezed n (keccak_f s) (length-keccak_f s))

  length-absorb : (n : ℕ) (p s : List ℕ) → length s ≡ 25 → length (absorb r n p s) ≡ 25
  unfolding absorb
  length-absorb zero p s h = h
  length-absorb (suc n) p s h = length-absorb n (drop r p) _ (length-keccak_f _)

  -- The padded message is whole blocks.
  padded_whole : (m : List ℕ) → length (low m ++ padding (r - 1 - length m % r)) ≡ suc (length m / r) * r
  padded_whole m =
      let q : ℕ = r - 1 - length m % r in
      let h : length m % r < r = mod-lt (length m) (omega arith) in
      omega (
        arith,
        length-append (low m) (padding q),
        length-map m (λ (x : ℕ). x % 256),
        length_padding q,
        div-add-mod' (length m) r,
        suc-mul (length m / r) r,
      )

  -- The sponge by blocks is the stream, finished and drawn.
  pub keccak_stream : (m : List ℕ) (n : ℕ) → keccak r suffix m n ≡ draw r n (finish r (feed r empty m))
  unfolding keccak draw
  keccak_stream m zero = refl
  keccak_stream m (suc n₁) =
      let n : ℕ = suc n₁ in
      let z : 0 < r = omega arith in
      let k : ℕ = (n - 1) / r in
      let q : ℕ = r - 1 - length m % r in
      let c : ℕ = suc (length m / r) in
      let p : List ℕ = padded r (spread 1 8 m ++ suffix) in
      let e : p ≡ low m ++ padding q = padded_bytes r z m in
      let lp : length p ≡ c * r = ap length e ∙ padded_whole m in
      let lc : length p / r ≡ c = ap (λ (x : ℕ). x / r) lp ∙ mul-div_cancel c z in
      let s : List ℕ = absorb r (length p / r) p (zeros 25) in
      let b : Below 256 (low m ++ padding q) = below_append 256 (low m) (padding q) (below_low m) (below_padding q) in
      let hn : n ≤ suc k * r = omega (arith, div-add-mod' (n - 1) r, mod-lt (n - 1) z, suc-mul k r) in
      sym (ap (draw r n) (finished r (omega arith, z, omega arith) m)
      ∙ ap (draw r n) (sym (feed_low r m (padding q) empty) ∙ ap (feed r empty) (sym e))
      ∙ sym (draw_turn r z n (feed r empty p) (omega arith))
      ∙ ap (draw r n)
      (absorbed (length p / r) p (zeros 25) refl (subst⁻¹ (Below 256) e b) (lp ∙ ap (λ (x : ℕ). x * r) (sym lc)))
      ∙ draw_front r n (suc k * r) (sponge s 0) hn
      ∙ ap (take n) (squeezed k s (length-absorb (length p / r) p (zeros 25) refl)))
