-- What the code does with lanes and shifts is what the definitions say: a place is a column and a row, and a rotation
-- is two parts of a lane.
-- Assumes nothing.
use mathlib.Core.Path.{◌≡◌, sym, ap, ap₂, ◌∙◌}
use Prim.Native.Nat.{ℕ, zero, suc, ◌+◌, ◌-◌, ◌*◌, ◌/◌, ◌%◌, ◌^◌, ◌≤◌, ◌<◌}
use mathlib.Core.List.{List, [], ◌∷◌}
use native.Mathlib.Omega.{arith}
use native.Mathlib.Numerals.{add-one}
use native.Mathlib.Nat.{mul-one, div-one, mod-eq_of_lt, mul-mod_left, add-zero}
use lib.Arith.{mod-mul}
use lib.Bits.{bit_or, bit_xor, bit_and, or_self, or_shifted}
use lib.ListN.{get_or, length, set, length-set}
use lib.Pow.{pow_pos, pow-add, shl-shr, shr_lt}
use Rattle.keccak.specs.Constants.{constant}
use Rattle.keccak.specs.Keccak.{rotated, inverted, lane, each, state, C, D, θ, ρ, π, χ, ι, round, rounds, keccak_f}
use Rattle.keccak.proofs.Each.{length-each, Filled, filled_next}

-- The lane at place i is that of its column and row.
pub lane_place : (s : List ℕ) (i : ℕ) → i < 25 → lane s (i % 5) (i / 5) ≡ get_or s i 0
unfolding lane
lane_place s i h =
    let e : 5 * (i / 5 % 5) + i % 5 % 5 ≡ i = omega arith in
    ap (λ (k : ℕ). get_or s k 0) e

-- The lane of χ.
abbrev pub chosen : List ℕ → ℕ → ℕ → ℕ
chosen s x y = bit_xor (lane s x y) (bit_and (inverted (lane s (x + 1) y)) (lane s (x + 2) y))

-- One round more.
pub rounds_next : (n : ℕ) (s : List ℕ) → rounds (n + 1) s ≡ round (constant n) (rounds n s)
unfolding rounds
rounds_next n s = ap (λ (k : ℕ). rounds k s) (add-one n)

length-χ : (s : List ℕ) → length (χ s) ≡ 25
unfolding χ state
length-χ s = simp length-each

length-round : (c : ℕ) (s : List ℕ) → length (round c s) ≡ 25
unfolding round ι
length-round c s = simp length-set (length-χ (π (ρ (θ s))))

length-rounds : (n : ℕ) (s : List ℕ) → length (rounds (suc n) s) ≡ 25
unfolding rounds
length-rounds n s = length-round (constant n) (rounds n s)

-- What is permuted has 25 lanes.
pub length-keccak_f : (s : List ℕ) → length (keccak_f s) ≡ 25
unfolding keccak_f
length-keccak_f s = length-rounds 23 s

-- A left shift keeps the low bits.
shifted_left : (k a : ℕ) → k ≤ 64 → a * 2 ^ k % 2 ^ 64 ≡ a % 2 ^ (64 - k) * 2 ^ k
shifted_left k a h =
    let e : 64 ≡ 64 - k + k = omega arith in
    ap (λ (n : ℕ). a * 2 ^ k % n) (ap (λ (n : ℕ). 2 ^ n) e ∙ pow-add 2 (64 - k) k)
    ∙ mod-mul (a * 2 ^ k) (pow_pos (64 - k)) (pow_pos k)
    ∙ ap₂ (λ (x y : ℕ). x % 2 ^ (64 - k) * 2 ^ k + y) (shl-shr a k) (mul-mod_left a (2 ^ k))
    ∙ add-zero (a % 2 ^ (64 - k) * 2 ^ k)

-- A rotation is a pair of shifts.
pub shift_pair : (n a : ℕ) → n < 64 → a < 2 ^ 64 → bit_or (a * 2 ^ n % 2 ^ 64) (a / 2 ^ ((64 - n) % 64)) ≡ rotated n a
unfolding rotated
shift_pair zero a hn ha =
    let z : a / 2 ^ 64 ≡ 0 = omega arith in
    ap₂ bit_or (ap (λ (x : ℕ). x % 2 ^ 64) (mul-one a) ∙ mod-eq_of_lt ha) (div-one a) ∙ or_self a
    ∙ sym (ap₂ (λ (x y : ℕ). x + y) (mul-one (a % 2 ^ 64) ∙ mod-eq_of_lt ha) z ∙ add-zero a)
shift_pair (suc m) a hn ha =
    let n : ℕ = suc m in
    let e : (64 - n) % 64 ≡ 64 - n = omega arith in
    let w : 64 ≡ n + (64 - n) = omega arith in
    let h : a < 2 ^ (n + (64 - n)) = rw (← w) ha in
    ap₂ bit_or (shifted_left n a (omega arith)) (ap (λ (x : ℕ). a / 2 ^ x) e)
    ∙ or_shifted (a % 2 ^ (64 - n)) n (a / 2 ^ (64 - n)) (shr_lt n (64 - n) h)

-- A column's number counts modulo 5.
column_mod : (s : List ℕ) (x : ℕ) → C s x ≡ C s (x % 5)
unfolding C lane
column_mod s x =
    let e : x % 5 % 5 ≡ x % 5 = omega arith in
    rw e

-- What θ adds to the five columns, from their parities and these rotated by one.
pub effects_are : (s : List ℕ) (c₀ c₁ c₂ c₃ c₄ r₀ r₁ r₂ r₃ r₄ : ℕ)
    → c₀ ≡ C s 0 → c₁ ≡ C s 1 → c₂ ≡ C s 2 → c₃ ≡ C s 3 → c₄ ≡ C s 4
    → r₀ ≡ rotated 1 c₀ → r₁ ≡ rotated 1 c₁ → r₂ ≡ rotated 1 c₂ → r₃ ≡ rotated 1 c₃ → r₄ ≡ rotated 1 c₄
    → bit_xor c₄ r₁ ∷ bit_xor c₀ r₂ ∷ bit_xor c₁ r₃ ∷ bit_xor c₂ r₄ ∷ bit_xor c₃ r₀ ∷ [] ≡ each (D s) 0 5
unfolding each D
effects_are s c₀ c₁ c₂ c₃ c₄ r₀ r₁ r₂ r₃ r₄ p₀ p₁ p₂ p₃ p₄ q₀ q₁ q₂ q₃ q₄ =
    cc (column_mod s 5, column_mod s 6, column_mod s 7, column_mod s 8)

-- A store of χ's lane at i, from the lane and the two after it in its row, at j and k.
pub chosen_next : (s b : List ℕ) (i j k n : ℕ) → Filled (chosen s) b i
    → (i < 25) × (5 * (i / 5) + (i % 5 + 1) % 5 ≡ j) × (5 * (i / 5) + (i % 5 + 2) % 5 ≡ k) × (i + 1 ≡ n)
    → Filled (chosen s) (set b i (bit_xor (get_or s i 0) (bit_and (inverted (get_or s j 0)) (get_or s k 0)))) n
unfolding lane
chosen_next s b i j k n h p =
    let r : i / 5 % 5 ≡ i / 5 = omega arith in
    let e : 5 * (i / 5) + i % 5 % 5 ≡ i = omega arith in
    filled_next (chosen s) b i _ n h p.0 (rw (r, e, p.1, p.2)) p.3
