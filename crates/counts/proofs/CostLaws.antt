-- What a value costs: 15·(c div 16 + c div 256 + 3) by its checksum c, so 45 is the least, and the zero value, whose
-- checksum is the greatest, has the greatest cost.
-- Assumes nothing.
use mathlib.Core.Path.{◌≡◌, refl, sym, ap, ap₂, ◌∙◌}
use mathlib.Core.List.{List, [], ◌∷◌, ◌++◌}
use Prim.Native.Nat.{ℕ, zero, suc, ◌+◌, ◌-◌, ◌*◌, ◌/◌, ◌%◌, ◌^◌, ◌≤◌, ◌<◌}
use native.Mathlib.Nat.{zero-lt-suc, div-one, mod-eq_of_lt, div-div-eq-div-mul, div-lt_iff_lt-mul, mul-zero, mul-suc}
use native.Mathlib.Nat.{suc-mul, add-suc, suc_inj, zero-mul, add-le-add, le_refl}
use native.Mathlib.Omega.{arith}
use lib.ListN.{length, replicate, length-replicate}
use lib.Pow.{pow-add, suc_ones}
use Rattle.lists.proofs.Below.{below_replicate}
use Rattle.rules.specs.Digits.{value, digits}
use Rattle.rules.specs.Places.{Bytes}
use Rattle.rules.specs.Calls.{Family}
use Rattle.rules.specs.Chains.{steps, own_digits, checksum, chain_digits}
use Rattle.rules.specs.Sets.{Row, Legal, rows}
use Rattle.rules.specs.Digest.{Pointed}
use Rattle.rules.specs.Keys.{piece}
use Rattle.rules.specs.Check.{checked_value}
use Rattle.counts.specs.Counts.{cost, steps_of, f_calls, costs_of, calls_by_cost, bounds}
use Rattle.rules.proofs.DigitLaws.{digits_value, base2b_whole}
use Rattle.rules.proofs.SetLaws.{checksum_fits}
use Rattle.rules.proofs.ChecksumLaws.{checksum_le, checksum_lt, chain_digits_lem}

-- ---- The cost of one value

steps_append : (ds es : List ℕ) → steps (ds ++ es) ≡ steps ds + steps es
unfolding steps
steps_append [] es = omega arith
steps_append (d ∷ ds) es = let r = steps_append ds es in omega arith

-- A checksum and the steps of its three digits.
three_digits : (c : ℕ) → c < 16 ^ 3 → c + steps (digits 4 3 c) ≡ cost c
unfolding steps digits
three_digits c h =
    let q : c / 16 / 16 ≡ c / 256 = div-div-eq-div-mul c 16 16 in
    rw (div-one c, mod-eq_of_lt ((div-lt_iff_lt-mul {k = 256} {x = c} {y = 16} (zero-lt-suc 255)).1 h), ← q)
    (sum c (c / 16) (c / 16 / 16) refl refl (omega arith))
  where
    sum : (c a b : ℕ) → a ≡ c / 16 → b ≡ a / 16 → b < 16
        → c + (15 - b + (15 - a % 16 + (15 - c % 16 + 0))) ≡ 15 * (a + b + 3)
    sum c a b e e' h = omega arith

-- The cost of a value, by its checksum.
pub value_cost : (n : ℕ) → 30 * n < 16 ^ 3 → (M : Bytes) → steps (chain_digits n M) ≡ cost (checksum n M)
unfolding checksum
value_cost n fits M =
    ap steps (chain_digits_lem n fits M) ∙ steps_append (own_digits n M) _
    ∙ three_digits (checksum n M) (checksum_lt n fits M)

-- A greater checksum costs no less.
cost_mono : (c e : ℕ) → c ≤ e → cost c ≤ cost e
cost_mono c e h = omega arith

-- ---- The least and the greatest

pub least : (n : ℕ) → 30 * n < 16 ^ 3 → (M : Bytes) → 45 ≤ steps (chain_digits n M)
least n fits M = rw (value_cost n fits M) (omega arith)

pub greatest : (n : ℕ) → 30 * n < 16 ^ 3 → (M : Bytes) → steps (chain_digits n M) ≤ cost (30 * n)
greatest n fits M = rw (value_cost n fits M) (cost_mono (checksum n M) (30 * n) (checksum_le n M))

-- c digits that are all x.
steps_replicate : (c x : ℕ) → steps (replicate c x) ≡ c * (15 - x)
unfolding steps
steps_replicate zero x = sym (zero-mul (15 - x))
steps_replicate (suc c) x = let r = steps_replicate c x in omega arith

-- n bytes and 2n digits of width 4 that stand for one number: the digits are the value's own.
own_of : (n x y : ℕ) → y < 16 → value 8 (replicate n x) ≡ value 4 (replicate (2 * n) y)
    → own_digits n (replicate n x) ≡ replicate (2 * n) y
unfolding own_digits
own_of n x y h e =
    base2b_whole (replicate n x) 4 (2 * n) (omega (arith, length-replicate n x))
    ∙ ap₂ (digits 4) (sym (length-replicate (2 * n) y)) e
    ∙ digits_value 4 (replicate (2 * n) y) (below_replicate 16 (2 * n) y (omega arith) h)

-- Zeros stand for zero, and ones stand for one less than the next power.
value_zeros : (b c : ℕ) → value b (replicate c 0) ≡ 0
unfolding value
value_zeros b zero = refl
value_zeros b (suc c) = let r = value_zeros b c in omega (arith, zero-mul (2 ^ (b * length {A = ℕ} (replicate c 0))))

value_ones : (b c : ℕ) → suc (value b (replicate c (2 ^ b - 1))) ≡ 2 ^ (b * c)
unfolding value
value_ones b zero = ap (λ (x : ℕ). 2 ^ x) (sym (mul-zero b))
value_ones b (suc c) =
    rw (length-replicate c (2 ^ b - 1))
    (sym (add-suc ((2 ^ b - 1) * 2 ^ (b * c)) _)
    ∙ ap (λ (x : ℕ). (2 ^ b - 1) * 2 ^ (b * c) + x) (value_ones b c)
    ∙ sym (suc-mul (2 ^ b - 1) (2 ^ (b * c))) ∙ ap (λ (x : ℕ). x * 2 ^ (b * c)) (suc_ones b)
    ∙ sym (pow-add 2 b (b * c)) ∙ ap (λ (x : ℕ). 2 ^ x) more_digits_lem)
  where
    more_digits_lem : b + b * c ≡ b * suc c
    more_digits_lem = omega (arith, mul-suc b c)

-- The zero value has the greatest checksum, and the value of ones has none.
pub zero_checksum : (n : ℕ) → checksum n (replicate n 0) ≡ 30 * n
unfolding checksum
zero_checksum n =
    ap steps (own_of n 0 0 (omega arith) (value_zeros 8 n ∙ sym (value_zeros 4 (2 * n))))
    ∙ steps_replicate (2 * n) 0 ∙ omega arith

pub ones_checksum : (n : ℕ) → checksum n (replicate n 255) ≡ 0
unfolding checksum
ones_checksum n =
    ap steps (own_of n 255 15 (omega arith) (suc_inj (value_ones 8 n ∙ ap (λ (x : ℕ). 2 ^ x) bits
    ∙ sym (value_ones 4 (2 * n))))) ∙ steps_replicate (2 * n) 15 ∙ omega arith
  where
    bits : 8 * n ≡ 4 * (2 * n)
    bits = omega arith

-- Both are reached: by the value of ones, and by the zero value.
pub least_reached : (n : ℕ) → 30 * n < 16 ^ 3 → steps (chain_digits n (replicate n 255)) ≡ 45
least_reached n fits = value_cost n fits (replicate n 255) ∙ ap cost (ones_checksum n)

pub greatest_reached : (n : ℕ) → 30 * n < 16 ^ 3 → steps (chain_digits n (replicate n 0)) ≡ cost (30 * n)
greatest_reached n fits = value_cost n fits (replicate n 0) ∙ ap cost (zero_checksum n)

-- ---- The F calls of a check

module _ (r : Row) (legal : Legal r) (f : Family r.n r.m) where
  steps_least : (pk : Bytes) (at : Pointed) (seal : Bytes) (j : ℕ) → 45 * j ≤ steps_of r f pk at seal j
  unfolding steps_of
  steps_least pk at seal zero = omega arith
  steps_least pk at seal (suc j) =
      omega (arith, steps_least pk at seal j, least r.n (checksum_fits r legal) (checked_value r f pk at seal j))

  steps_greatest : (pk : Bytes) (at : Pointed) (seal : Bytes) (j : ℕ)
      → steps_of r f pk at seal j ≤ cost (30 * r.n) * j
  unfolding steps_of
  steps_greatest pk at seal zero = omega arith
  steps_greatest pk at seal (suc j) =
      omega (
        arith,
        steps_greatest pk at seal j,
        mul-suc (cost (30 * r.n)) j,
        greatest r.n (checksum_fits r legal) (checked_value r f pk at seal j),
      )

  pub f_least : (public M seal : Bytes) → r.k + 45 * r.d ≤ f_calls r f public M seal
  unfolding f_calls
  f_least public M seal = add-le-add (le_refl r.k) (steps_least (piece r.n 0 public) _ seal r.d)

  pub f_greatest : (public M seal : Bytes) → f_calls r f public M seal ≤ r.k + cost (30 * r.n) * r.d
  unfolding f_calls
  f_greatest public M seal = add-le-add (le_refl r.k) (steps_greatest (piece r.n 0 public) _ seal r.d)

  -- The same by the checksums.
  steps_cost : (pk : Bytes) (at : Pointed) (seal : Bytes) (j : ℕ)
      → steps_of r f pk at seal j ≡ costs_of r f pk at seal j
  unfolding steps_of costs_of
  steps_cost pk at seal zero = refl
  steps_cost pk at seal (suc j) =
      ap₂ ◌+◌ (steps_cost pk at seal j) (value_cost r.n (checksum_fits r legal) (checked_value r f pk at seal j))

  pub by_cost : (public M seal : Bytes) → f_calls r f public M seal ≡ calls_by_cost r f public M seal
  unfolding f_calls calls_by_cost
  by_cost public M seal =
      ap (λ (x : ℕ). r.k + x) (steps_cost (piece r.n 0 public) _ seal r.d)

-- The least and the greatest number of F calls, worked out for every row.
pub row_bounds : bounds rows ≡ 329 ∷ 3584 ∷ 1023 ∷ 11253 ∷ []
unfolding bounds rows
row_bounds = refl
