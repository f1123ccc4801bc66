-- The laws of digits: what digits stand for, and that equal digits are equal numbers, by recursion on their number.
-- Assumes nothing.
use mathlib.Core.Path.{◌≡◌, refl, sym, ap, ap₂, ◌∙◌}
use mathlib.Core.List.{List, [], ◌∷◌}
use Prim.Native.Nat.{ℕ, zero, suc, ◌+◌, ◌*◌, ◌/◌, ◌%◌, ◌^◌, ◌<◌}
use native.Mathlib.Nat.{mod-lt, mod-eq_of_lt, mul-zero, mul-suc, add_comm, mod-one, div-one, mul_assoc}
use native.Mathlib.Nat.{mul-add-div_right, mul-add-mod_self_right, sub_self}
use native.Mathlib.Omega.{arith}
use lib.ListN.{length}
use lib.Arith.{digits_lt}
use lib.Pow.{pow_pos, pow-add, mod-pow-add, high}
use Rattle.lists.specs.Below.{Below}
use Rattle.lists.proofs.Below.{below_nil, below_cons}
use Rattle.rules.specs.Digits.{value, digits, to_int, base2b}

-- As many digits as were asked for.
pub length_digits : (b out x : ℕ) → length (digits b out x) ≡ out
unfolding digits
length_digits b zero x = refl
length_digits b (suc out) x = ap suc (length_digits b out x)

pub length-base2b : (X : List ℕ) (b out : ℕ) → length (base2b X b out) ≡ out
unfolding base2b
length-base2b X b out = length_digits b out _

-- Every digit of width b is below 2^b.
pub digits_below : (b out x : ℕ) → Below (2 ^ b) (digits b out x)
unfolding digits
digits_below b zero x = below_nil (2 ^ b) (pow_pos b)
digits_below b (suc out) x =
    below_cons (2 ^ b) _ (digits b out x) (mod-lt (x / 2 ^ (b * out)) (pow_pos b)) (digits_below b out x)

pub base2b_below : (X : List ℕ) (b out : ℕ) → Below (2 ^ b) (base2b X b out)
unfolding base2b
base2b_below X b out = digits_below b out _

-- The digits of x stand for x, less what they cut off.
pub value_digits : (b out x : ℕ) → value b (digits b out x) ≡ x % 2 ^ (b * out)
unfolding value digits
value_digits b zero x = rw (mul-zero b) (sym (mod-one x))
value_digits b (suc out) x =
    rw (length_digits b out x, value_digits b out x, mul-suc b out, add_comm (b * out) b)
    (sym (mod-pow-add x b (b * out)))

pow_one_more : (b out : ℕ) → 2 ^ (b * suc out) ≡ 2 ^ b * 2 ^ (b * out)
pow_one_more b out = rw (mul-suc b out, add_comm (b * out) b) (pow-add 2 b (b * out))

-- What digits stand for fits as many digits.
pub value_lt : (b : ℕ) (xs : List ℕ) → Below (2 ^ b) xs → value b xs < 2 ^ (b * length xs)
unfolding value
value_lt b [] h = pow_pos (b * 0)
value_lt b (x ∷ xs) h = rw (pow_one_more b (length xs)) (digits_lt (h 0) (value_lt b xs (λ i. h (suc i))))

-- What stands above the digits does not change them.
pub digits_above : (b out x y : ℕ) → digits b out (y * 2 ^ (b * out) + x) ≡ digits b out x
unfolding digits
digits_above b zero x y = refl
digits_above b (suc out) x y =
    rw (
      pow_one_more b out,
      ← mul_assoc y (2 ^ b) (2 ^ (b * out)),
      digits_above b out x (y * 2 ^ b),
      mul-add-div_right (pow_pos (b * out)) (y * 2 ^ b) x,
      mul-add-mod_self_right y (2 ^ b) (x / 2 ^ (b * out)),
    )

-- The digits of what digits stand for are those digits.
pub digits_value : (b : ℕ) (xs : List ℕ) → Below (2 ^ b) xs → digits b (length xs) (value b xs) ≡ xs
unfolding value digits
digits_value b [] h = refl
digits_value b (x ∷ xs) h =
    rw (
      high x (b * length xs) (value_lt b xs (λ i. h (suc i))),
      mod-eq_of_lt (h 0),
      digits_above b (length xs) (value b xs) x,
      digits_value b xs (λ i. h (suc i)),
    )

-- Equal digits, equal numbers; and equal numbers, equal digits.
pub digits_inj : (b out x y : ℕ) → x < 2 ^ (b * out) → y < 2 ^ (b * out) → digits b out x ≡ digits b out y → x ≡ y
digits_inj b out x y hx hy e =
    sym (mod-eq_of_lt hx) ∙ sym (value_digits b out x) ∙ ap (value b) e ∙ value_digits b out y ∙ mod-eq_of_lt hy

pub value_inj : (b : ℕ) (xs ys : List ℕ) → Below (2 ^ b) xs → Below (2 ^ b) ys → length xs ≡ length ys
    → value b xs ≡ value b ys → xs ≡ ys
value_inj b xs ys hx hy l e = sym (digits_value b xs hx) ∙ ap₂ (digits b) l e ∙ digits_value b ys hy

-- Where base_2b cuts nothing off, it gives the digits of the whole number.
pub base2b_whole : (X : List ℕ) (b out : ℕ) → 8 * length X ≡ b * out → base2b X b out ≡ digits b out (to_int X)
unfolding base2b
base2b_whole X b out e = rw (e, sub_self (b * out)) (ap (digits b out) (div-one (to_int X)))

-- Where base_2b cuts nothing off, different byte strings have different digits.
pub base2b_inj : (b out : ℕ) (X Y : List ℕ) → Below 256 X → Below 256 Y → 8 * length X ≡ b * out
    → 8 * length Y ≡ b * out → base2b X b out ≡ base2b Y b out → X ≡ Y
base2b_inj b out X Y hx hy lx ly e =
    value_inj 8 X Y hx hy (omega arith)
    (digits_inj b out (to_int X) (to_int Y) (rw (← lx) (value_lt 8 X hx)) (rw (← ly) (value_lt 8 Y hy))
    (sym (base2b_whole X b out lx) ∙ e ∙ base2b_whole Y b out ly))
