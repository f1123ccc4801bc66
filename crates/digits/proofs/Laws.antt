-- A turn of each loop and what each call gives, on plain values, by the laws of digits and of lists.
-- Assumes nothing.
use mathlib.Core.Path.{◌≡◌, refl, sym, ap, ap₂, ◌∙◌}
use mathlib.Core.List.{List, [], ◌∷◌, ◌++◌}
use Prim.Native.Nat.{ℕ, suc, ◌+◌, ◌-◌, ◌*◌, ◌/◌, ◌%◌, ◌^◌, ◌≤◌, ◌<◌}
use native.Mathlib.Nat.{mul_comm, lt_of_lt_of_le, mod-lt, mul-suc, mul-le-mul_left}
use native.Mathlib.Numerals.{add-one}
use native.Mathlib.Omega.{arith}
use lib.ListN.{length, take, drop, get_or}
use lib.Seq.{length-take-le}
use lib.Pow.{pow_pos, pow_mono}
use Rattle.std.specs.List.{sum_by}
use Rattle.std.proofs.lemmas.List.Sums.{sum_by-cons}
use Rattle.lists.proofs.Bits.{one_shifted}
use Rattle.lists.specs.Below.{Below}
use Rattle.lists.proofs.Below.{below_take}
use Rattle.rules.specs.Digits.{to_int, to_byte, base2b}
use Rattle.rules.specs.Chains.{steps, own_digits, checksum, chain_digits}
use Rattle.rules.proofs.ChecksumLaws.{checksum_lt}
use Rattle.rules.proofs.ReadLaws.{value_fits, value_suc, value_front, value_rest, base2b_at}

-- ---- The number of at most eight bytes

-- With the next byte, the total is the number of one byte more.
pub number_turn : (x : List ℕ) (i total v : ℕ) → i < length x → total ≡ to_int (take i x) → v ≡ get_or x i 0
    → total * 256 + v ≡ to_int (take (i + 1) x)
number_turn x i total v h e f = rw (e, f, add-one i) (sym (value_suc i x h))

-- With the next byte, the number of at most eight bytes fits 64 bits.
pub number_fits : (x : List ℕ) (i total : ℕ) → Below 256 x → length x ≤ 8 → i < length x → total ≡ to_int (take i x)
    → total * 256 + get_or x i 0 < 2 ^ 64
number_fits x i total b l h e =
    rw (e, ← value_suc i x h)
    (value_fits 8 64 (take (suc i) x) (below_take 256 (suc i) x (omega arith) b)
    (rw (length-take-le (suc i) x h) (omega arith)))

-- ---- One digit

-- A digit's modulus is not zero.
pub digit_modulus : (w : ℕ) → w < 64 → 0 < 1 * 2 ^ w % 2 ^ 64
digit_modulus w h = rw (one_shifted w 64 h) (pow_pos w)

-- A digit fits 32 bits.
pub digit_fits : (q w : ℕ) → w ≤ 16 → q % (1 * 2 ^ w % 2 ^ 64) < 2 ^ 32
digit_fits q w h =
    rw (one_shifted w 64 (omega arith)) (lt_of_lt_of_le (mod-lt q (pow_pos w)) (pow_mono {j = 32} (omega arith)))

-- The w bits that end e bits after the start, from the number N of the first n bytes, which hold those e bits.
pub digit_read : (X : List ℕ) (e w n N : ℕ) → Below 256 X → w < 64 → n ≤ length X → e ≤ 8 * n → N ≡ to_int (take n X)
    → N / 2 ^ (n * 8 - e) % (1 * 2 ^ w % 2 ^ 64) ≡ to_int X / 2 ^ (8 * length X - e) % 2 ^ w
digit_read X e w n N b h64 h he f =
    rw (one_shifted w 64 h64, f, mul_comm n 8) (ap (λ (v : ℕ). v % 2 ^ w) (value_front X n e b h he))

-- ---- All digits: digit j begins `skip` bits after byte `at`

module _ (w j at skip : ℕ) (here : w * j ≡ 8 * at + skip) where
  -- The next digit begins `w` bits later.
  pub place_turn : w * (j + 1) ≡ 8 * (at + (skip + w) / 8) + (skip + w) % 8
  place_turn = omega arith

  module _ (X : List ℕ) (count : ℕ) (room : w * count ≤ 8 * length X) (more : j < count) where
    -- Digit j ends within the bytes.
    place_room : 8 * at + (skip + w) ≤ 8 * length X
    place_room = omega (arith, mul-le-mul_left w more, mul-suc w j)

    -- The bits at that place are digit j.
    pub place_digit : (rest : List ℕ) (v : ℕ) → rest ≡ drop at X
        → v ≡ to_int rest / 2 ^ (8 * length rest - (skip + w)) % 2 ^ w → v ≡ get_or (base2b X w count) j 0
    place_digit rest v r e =
        e ∙ ap (λ (l : List ℕ). to_int l / 2 ^ (8 * length l - (skip + w)) % 2 ^ w) r
        ∙ value_rest X at (skip + w) w place_room (omega arith)
        ∙ ap (λ (x : ℕ). to_int X / 2 ^ (8 * length X - x) % 2 ^ w) ends ∙ sym (base2b_at X w count j more room)
      where
        ends : 8 * at + (skip + w) ≡ w * suc j
        ends = omega (arith, mul-suc w j)

-- ---- The sum of the steps left

-- The steps left are a sum over the digits, of 15 or less for each.
pub steps_sum : (ds : List ℕ) → steps ds ≡ sum_by (λ d. 15 - d) ds
unfolding steps
steps_sum [] = refl
steps_sum (d ∷ ds) = ap (λ (s : ℕ). 15 - d + s) (steps_sum ds) ∙ sym (sum_by-cons (λ x. 15 - x) d ds)

pub steps_le : (ds : List ℕ) → sum_by (λ d. 15 - d) ds ≤ 15 * length ds
steps_le [] = omega arith
steps_le (d ∷ ds) = omega (arith, sum_by-cons (λ x. 15 - x) d ds, steps_le ds)

-- ---- The chain digits: a value's own ys, two to a byte, and then three of their checksum

module _ (x ys : List ℕ) (k s : ℕ) (two : k ≡ 2 * length x) (own : ys ≡ base2b x 4 k) (sum : s ≡ steps ys) where
  -- The steps left of the own digits are the checksum.
  own_sum : s ≡ checksum (length x) x
  unfolding checksum own_digits
  own_sum = sum ∙ ap steps (own ∙ ap (base2b x 4) two)

  -- Three digits hold them.
  pub own_sum_lt : 30 * length x < 16 ^ 3 → s < 16 ^ 3
  own_sum_lt h = rw own_sum (checksum_lt (length x) h x)

  -- With the checksum's digits after them, the own digits are the chain digits.
  pub all_written : (bytes zs : List ℕ) (j : ℕ) → j ≡ 3 → bytes ≡ to_byte (s * 16) 2 → zs ≡ base2b bytes 4 j
      → ys ++ zs ≡ chain_digits (length x) x
  unfolding chain_digits own_digits
  all_written bytes zs j three et ez =
      ap₂ ◌++◌ (own ∙ ap (base2b x 4) two)
      (ez ∙ ap₂ (λ (t : List ℕ) (i : ℕ). base2b t 4 i) (et ∙ ap (λ (i : ℕ). to_byte (i * 16) 2) own_sum) three)
