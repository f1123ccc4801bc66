-- Bytes that go into one lane, or come out of it, go together: ⊕ is associative, and bytes at different places don't
-- overlap.
-- Assumes nothing.
use mathlib.Core.Path.{◌≡◌, refl, sym, ap, ap₂, ◌∙◌, subst}
use Prim.Native.Nat.{ℕ, zero, suc, ◌+◌, ◌*◌, ◌/◌, ◌%◌, ◌^◌, ◌<◌, ◌≤◌}
use mathlib.Core.List.{List, [], ◌∷◌}
use native.Mathlib.Omega.{arith}
use native.Mathlib.Nat.{mul-lt-mul_of_pos_right, mul-le-mul_left, mul_assoc, mul_comm, add-mul, add_comm, add-zero}
use native.Mathlib.Nat.{div-div-eq-div-mul, zero-mul, mul-one, div-one, lt_of_not-le, lt_of_lt_of_le, mod-eq_of_lt}
use native.Mathlib.Decide.{dec_le}
use lib.ListN.{get_or, length, take, drop, set}
use lib.Seq.{drop-cons, set-set, set_out, set-get_or, get_or-set_same}
use lib.Pow.{pow_pos, pow-add, pow_mono, shr-shr}
use lib.Bits.{bit_xor, xor_comm, xor_zero_r, xor_shifted}
use Rattle.std.specs.Int.{w64, from_le_bytes, to_le_bytes}
use Rattle.std.proofs.lemmas.List.{length-take-le, take-append-drop, drop_all}
use Rattle.lists.specs.Below.{Below}
use Rattle.lists.proofs.Below.{below_take}
use Rattle.lists.proofs.Xor.{xor_assoc}
use Rattle.sponge.specs.Sponge.{digits, number}
use Rattle.sponge.specs.Stream.{Sponge, sponge, byte_of, mixed, step, put, feed, draw}
use Rattle.sponge.proofs.Stream.{turn_no, draw_step, feed_append}

-- A byte shifted within a lane loses nothing.
pub shifted : (b n : ℕ) → b < 256 → n ≤ 56 → b * 2 ^ n % 2 ^ 64 ≡ b * 2 ^ n
shifted b n hb hn =
    mod-eq_of_lt (lt_of_lt_of_le (mul-lt-mul_of_pos_right hb (pow_pos n)) (mul-le-mul_left 256 (pow_mono hn)))

next_pow : (o : ℕ) → 2 ^ (8 * (o + 1)) ≡ 256 * 2 ^ (8 * o)
next_pow o =
    let e : 8 * (o + 1) ≡ 8 + 8 * o = omega arith in
    ap (λ (n : ℕ). 2 ^ n) e ∙ pow-add 2 8 (8 * o)

join : (b l o : ℕ) → b < 256 → bit_xor (b * 2 ^ (8 * o)) (l * 2 ^ (8 * (o + 1))) ≡ (b + 256 * l) * 2 ^ (8 * o)
join b l o h =
    xor_comm (b * 2 ^ (8 * o)) (l * 2 ^ (8 * (o + 1)))
    ∙ xor_shifted l (8 * (o + 1)) (b * 2 ^ (8 * o))
    (subst (λ (x : ℕ). b * 2 ^ (8 * o) < x) (sym (next_pow o)) (mul-lt-mul_of_pos_right h (pow_pos (8 * o))))
    ∙ ap (λ (x : ℕ). l * x + b * 2 ^ (8 * o)) (next_pow o)
    ∙ ap (λ (x : ℕ). x + b * 2 ^ (8 * o))
    (sym (mul_assoc l 256 (2 ^ (8 * o))) ∙ ap (λ (x : ℕ). x * 2 ^ (8 * o)) (mul_comm l 256))
    ∙ add_comm (256 * l * 2 ^ (8 * o)) (b * 2 ^ (8 * o)) ∙ sym (add-mul b (256 * l) (2 ^ (8 * o)))

-- What is added to a lane twice is added at once; where there is no lane j, nothing is set.
pub set_twice : (s : List ℕ) (j a b : ℕ)
    → set (set s j (bit_xor (get_or s j 0) a)) j (bit_xor (get_or (set s j (bit_xor (get_or s j 0) a)) j 0) b)
    ≡ set s j (bit_xor (get_or s j 0) (bit_xor a b))
set_twice s j a b =
    set-set s j _ _
    ∙ elim (dec_le (length s) j) [
      | yes h ↦ set_out s j _ h ∙ sym (set_out s j _ h)
      | no h ↦ ap (set s j)
          (ap (λ (y : ℕ). bit_xor y b) (get_or-set_same s j (bit_xor (get_or s j 0) a) 0 (lt_of_not-le h))
          ∙ xor_assoc (get_or s j 0) a b)
    ]

-- A byte goes in below the rate.
pub byte_in : (r : ℕ) (s : List ℕ) (at b : ℕ) → at < r → b < 256
    → put r (sponge s at) b ≡ sponge (mixed s at b) (at + 1)
unfolding put step
byte_in r s at b h hb =
    ap (step (b % 256)) (turn_no r (sponge s at) h) ∙ ap (λ (x : ℕ). step x (sponge s at)) (mod-eq_of_lt hb)

byte_into : (r : ℕ) (s : List ℕ) (j o b : ℕ) → 8 * j + 8 ≤ r → o < 8 → b < 256
    → put r (sponge s (8 * j + o)) b ≡ sponge (set s j (bit_xor (get_or s j 0) (b * 2 ^ (8 * o)))) (8 * j + o + 1)
unfolding mixed
byte_into r s j o b hj ho hb =
    let d : (8 * j + o) / 8 ≡ j = omega arith in
    let e : (8 * j + o) % 8 ≡ o = omega arith in
    byte_in r s (8 * j + o) b (omega arith) hb
    ∙ ap₂ (λ (x y : ℕ). sponge (set s x (bit_xor (get_or s x 0) (b * 2 ^ (8 * y)))) (8 * j + o + 1)) d e

-- Bytes go into lane j above o bytes of it.
bytes_into : (r j : ℕ) → 8 * j + 8 ≤ r → (p : List ℕ) → Below 256 p → (s : List ℕ) (o : ℕ) → o + length p ≤ 8
    → feed r (sponge s (8 * j + o)) p
    ≡ sponge (set s j (bit_xor (get_or s j 0) (number 8 p * 2 ^ (8 * o)))) (8 * j + o + length p)
unfolding feed number
bytes_into r j hj [] hp s o ho =
    sym (ap₂ sponge
    (ap (λ (x : ℕ). set s j (bit_xor (get_or s j 0) x)) (zero-mul (2 ^ (8 * o)))
    ∙ ap (set s j) (xor_zero_r (get_or s j 0))
    ∙ set-get_or s j 0)
    (add-zero (8 * j + o)))
bytes_into r j hj (b ∷ p) hp s o ho =
    let x : ℕ = get_or s j 0 in
    let t : List ℕ = set s j (bit_xor x (b * 2 ^ (8 * o))) in
    let e : 8 * j + o + 1 ≡ 8 * j + (o + 1) = omega arith in
    let f : 8 * j + (o + 1) + length p ≡ 8 * j + o + suc (length p) = omega arith in
    ap (λ (k : Sponge). feed r k p) (byte_into r s j o b hj (omega arith) (hp 0) ∙ ap (sponge t) e)
    ∙ bytes_into r j hj p (λ i. hp (suc i)) t (o + 1) (omega arith)
    ∙ ap₂ sponge
    (set_twice s j (b * 2 ^ (8 * o)) (number 8 p * 2 ^ (8 * (o + 1)))
    ∙ ap (λ (y : ℕ). set s j (bit_xor x y)) (join b (number 8 p) o (hp 0)))
    f

-- Eight bytes go into a lane.
pub lane_in : (r : ℕ) (p : List ℕ) → Below 256 p → length p ≡ 8 → (s : List ℕ) (at : ℕ) → at % 8 ≡ 0 → at + 8 ≤ r
    → feed r (sponge s at) p ≡ sponge (set s (at / 8) (bit_xor (get_or s (at / 8) 0) (number 8 p))) (at + 8)
lane_in r p hp hl s at ha hr =
    let e : 8 * (at / 8) + 0 ≡ at = omega arith in
    let f : 8 * (at / 8) + 0 + length p ≡ at + 8 = omega arith in
    ap (λ (q : ℕ). feed r (sponge s q) p) (sym e)
    ∙ bytes_into r (at / 8) (omega arith) p hp s 0 (omega arith)
    ∙ ap₂ (λ (x q : ℕ). sponge (set s (at / 8) (bit_xor (get_or s (at / 8) 0) x)) q) (mul-one (number 8 p)) f

number_from : (p : List ℕ) (i : ℕ) → i < length p
    → number 8 (drop i p) ≡ get_or p i 0 + 256 * number 8 (drop (suc i) p)
unfolding number
number_from p i h = ap (number 8) (drop-cons p i 0 h)

-- The number of eight bytes, as the library reads it.
number_le : (p : List ℕ) → length p ≡ 8 → from_le_bytes w64 p ≡ number 8 p
unfolding number
number_le p l =
    let n = λ (i : ℕ) (h : i < 8). number_from p i (omega arith) in
    let past : number 8 (drop 8 p) ≡ 0 = ap (number 8) (drop_all 8 p (omega arith)) in
    omega (
      arith,
      past,
      n 0 (omega arith),
      n 1 (omega arith),
      n 2 (omega arith),
      n 3 (omega arith),
      n 4 (omega arith),
      n 5 (omega arith),
      n 6 (omega arith),
      n 7 (omega arith),
    )

-- A message's first eight bytes go into a lane.
pub lane_first : (r : ℕ) (m : List ℕ) → Below 256 m → 8 ≤ length m → (s : List ℕ) (at : ℕ) → at % 8 ≡ 0 → at + 8 ≤ r
    → let lane : ℕ = bit_xor (get_or s (at / 8) 0) (from_le_bytes w64 (take 8 m)) in
    feed r (sponge (set s (at / 8) lane) (at + 8)) (drop 8 m) ≡ feed r (sponge s at) m
lane_first r m hm hl s at ha hr =
    let p : List ℕ = take 8 m in
    let n : length p ≡ 8 = length-take-le 8 m hl in
    ap (λ (x : ℕ). feed r (sponge (set s (at / 8) (bit_xor (get_or s (at / 8) 0) x)) (at + 8)) (drop 8 m))
    (number_le p n)
    ∙ ap (λ (k : Sponge). feed r k (drop 8 m)) (sym (lane_in r p (below_take 256 8 m (omega arith) hm) n s at ha hr))
    ∙ sym (feed_append r (sponge s at) p (drop 8 m))
    ∙ ap (feed r (sponge s at)) (take-append-drop 8 m)

-- A message's first byte goes in.
pub byte_first : (r : ℕ) (m : List ℕ) → Below 256 m → 0 < length m → (s : List ℕ) (at : ℕ) → at < r
    → feed r (sponge (mixed s at (get_or m 0 0)) (at + 1)) (drop 1 m) ≡ feed r (sponge s at) m
unfolding feed
byte_first r m hm hl s at ha =
    ap (λ (k : Sponge). feed r k (drop 1 m)) (sym (byte_in r s at (get_or m 0 0) ha (hm 0)))
    ∙ ap (feed r (sponge s at)) (sym (drop-cons m 0 0 hl))

-- Bytes come out of lane j above o bytes of it.
bytes_out : (r j : ℕ) → 8 * j + 8 ≤ r → (s : List ℕ) (n o : ℕ) → o + n ≤ 8
    → draw r n (sponge s (8 * j + o)) ≡ digits 8 n (get_or s j 0 / 2 ^ (8 * o))
unfolding draw digits byte_of
bytes_out r j hj s zero o ho = refl
bytes_out r j hj s (suc n) o ho =
    let d : (8 * j + o) / 8 ≡ j = omega arith in
    let e : (8 * j + o) % 8 ≡ o = omega arith in
    let f : 8 * j + o + 1 ≡ 8 * j + suc o = omega arith in
    let g : 8 * suc o ≡ 8 * o + 8 = omega arith in
    draw_step r s (8 * j + o) n (omega arith)
    ∙ ap₂ (λ (x : ℕ) (l : List ℕ). x ∷ l)
    (ap₂ (λ (x y : ℕ). get_or s x 0 / 2 ^ (8 * y) % 256) d e)
    (ap (λ (p : ℕ). draw r n (sponge s p)) f ∙ bytes_out r j hj s n (suc o) (omega arith)
    ∙ ap (digits 8 n) (ap (λ (x : ℕ). get_or s j 0 / 2 ^ x) g ∙ sym (shr-shr (get_or s j 0) (8 * o) 8)))

-- Eight bytes come out of a lane.
pub lane_out : (r : ℕ) (s : List ℕ) (at : ℕ) → at % 8 ≡ 0 → at + 8 ≤ r
    → draw r 8 (sponge s at) ≡ digits 8 8 (get_or s (at / 8) 0)
lane_out r s at ha hr =
    let e : 8 * (at / 8) + 0 ≡ at = omega arith in
    ap (λ (p : ℕ). draw r 8 (sponge s p)) (sym e)
    ∙ bytes_out r (at / 8) (omega arith) s 8 0 (omega arith)
    ∙ ap (digits 8 8) (div-one (get_or s (at / 8) 0))

-- One byte comes out.
pub byte_out : (r : ℕ) (s : List ℕ) (at : ℕ) → at < r → draw r 1 (sponge s at) ≡ byte_of s at ∷ []
unfolding draw
byte_out r s at h = draw_step r s at 0 h

-- The bytes of a lane, as the library gives them.
pub le_digits : (w : ℕ) → to_le_bytes w64 w ≡ digits 8 8 w
unfolding digits
le_digits w = simp div-div-eq-div-mul refl
