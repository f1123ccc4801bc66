-- What code that reads digits off bytes goes by: the number of a part of a byte string, and each digit as bits of the
-- whole number, by splitting the string where the part begins and ends.
-- Assumes nothing.
use mathlib.Core.Path.{◌≡◌, sym, ap, ◌∙◌}
use mathlib.Core.List.{List, [], ◌∷◌, ◌++◌}
use Prim.Native.Nat.{ℕ, zero, suc, ◌+◌, ◌-◌, ◌*◌, ◌/◌, ◌%◌, ◌^◌, ◌≤◌, ◌<◌}
use native.Mathlib.Nat.{lt_of_lt_of_le, suc-sub-suc, add-mul, mul_assoc, mul-add}
use native.Mathlib.Numerals.{unary_clauses}
use native.Mathlib.Omega.{arith}
use lib.ListN.{length, take, drop, get_or, length-append, length-drop, take-append-drop}
use lib.Seq.{take-suc}
use lib.Pow.{pow_mono, pow-add, shr-shr, high}
use Rattle.lists.proofs.Bits.{above_cut}
use Rattle.lists.specs.Below.{Below}
use Rattle.lists.proofs.Below.{below_drop}
use Rattle.rules.specs.Digits.{value, digits, to_int, base2b}
use Rattle.rules.proofs.DigitLaws.{value_lt}

-- The number of joined lists.
pub value_append : (b : ℕ) (xs ys : List ℕ) → value b (xs ++ ys) ≡ value b xs * 2 ^ (b * length ys) + value b ys
unfolding value
value_append b [] ys = omega arith
value_append b (x ∷ xs) ys =
    rw (
      value_append b xs ys,
      length-append xs ys,
      mul-add b (length xs) (length ys),
      pow-add 2 (b * length xs) (b * length ys),
    )
    (omega (
      arith,
      mul_assoc x (2 ^ (b * length xs)) (2 ^ (b * length ys)),
      add-mul (x * 2 ^ (b * length xs)) (value b xs) (2 ^ (b * length ys)),
    ))

-- What digits stand for fits as many bits as they have together.
pub value_fits : (b w : ℕ) (xs : List ℕ) → Below (2 ^ b) xs → b * length xs ≤ w → value b xs < 2 ^ w
value_fits b w xs h l = lt_of_lt_of_le (value_lt b xs h) (pow_mono l)

-- The number of one byte more.
pub value_suc : (j : ℕ) (xs : List ℕ) → j < length xs
    → to_int (take (suc j) xs) ≡ to_int (take j xs) * 256 + get_or xs j 0
unfolding value
value_suc j xs h = rw (take-suc xs j 0 h, value_append 8 (take j xs) (get_or xs j 0 ∷ [])) (omega arith)

-- The number of the first j bytes is that of the whole, moved down.
pub value_take : (j : ℕ) (xs : List ℕ) → Below 256 xs → j ≤ length xs
    → to_int xs / 2 ^ (8 * (length xs - j)) ≡ to_int (take j xs)
value_take j xs b h =
    ap (λ (v : ℕ). v / 2 ^ (8 * (length xs - j)))
    (ap to_int (sym (take-append-drop j xs)) ∙ value_append 8 (take j xs) (drop j xs))
    ∙ rw (length-drop j xs)
    (high (to_int (take j xs)) (8 * (length xs - j))
    (rw (length-drop j xs) at (value_lt 8 (drop j xs) (below_drop 256 j xs b))))

-- The first e bits of the first n bytes are those of the whole.
pub value_front : (X : List ℕ) (n e : ℕ) → Below 256 X → n ≤ length X → e ≤ 8 * n
    → to_int (take n X) / 2 ^ (8 * n - e) ≡ to_int X / 2 ^ (8 * length X - e)
value_front X n e b h he =
    ap (λ (v : ℕ). v / 2 ^ (8 * n - e)) (sym (value_take n X b h))
    ∙ shr-shr (to_int X) (8 * (length X - n)) (8 * n - e) ∙ ap (λ (k : ℕ). to_int X / 2 ^ k) places
  where
    places : 8 * (length X - n) + (8 * n - e) ≡ 8 * length X - e
    places = omega arith

-- The last w of the first e bits from byte `at` on, as bits of the whole.
pub value_rest : (X : List ℕ) (at e w : ℕ) → 8 * at + e ≤ 8 * length X → w ≤ e
    → to_int (drop at X) / 2 ^ (8 * length (drop at X) - e) % 2 ^ w
    ≡ to_int X / 2 ^ (8 * length X - (8 * at + e)) % 2 ^ w
value_rest X at e w h hw =
    let k : ℕ = 8 * length X - (8 * at + e) in
    rw (length-drop at X, places) (sym (
    ap (λ (v : ℕ). v / 2 ^ k % 2 ^ w)
    (ap to_int (sym (take-append-drop at X)) ∙ value_append 8 (take at X) (drop at X)
    ∙ ap (λ (x : ℕ). to_int (take at X) * 2 ^ x + to_int (drop at X))
    (ap (λ (x : ℕ). 8 * x) (length-drop at X) ∙ whole))
    ∙ above_cut (to_int (take at X)) (to_int (drop at X)) k e w hw))
  where
    places : 8 * (length X - at) - e ≡ 8 * length X - (8 * at + e)
    places = omega arith

    whole : 8 * (length X - at) ≡ e + (8 * length X - (8 * at + e))
    whole = omega arith

-- Digit j of a number, from the most significant on.
pub digits_at : (b out x j : ℕ) → j < out → get_or (digits b out x) j 0 ≡ x / 2 ^ (b * (out - suc j)) % 2 ^ b
unfolding digits
digits_at b zero x j h = absurd (omega arith)
digits_at b (suc out) x zero h = simp unary_clauses
digits_at b (suc out) x (suc j) h = rw (suc-sub-suc out (suc j)) (digits_at b out x j (omega arith))

-- Digit j of base_2b as bits of the whole number: it ends b·(j + 1) bits after the start.
pub base2b_at : (X : List ℕ) (b out j : ℕ) → j < out → b * out ≤ 8 * length X
    → get_or (base2b X b out) j 0 ≡ to_int X / 2 ^ (8 * length X - b * suc j) % 2 ^ b
unfolding base2b
base2b_at X b out j h l =
    digits_at b out (to_int X / 2 ^ (8 * length X - b * out)) j h
    ∙ ap (λ (v : ℕ). v % 2 ^ b)
    (shr-shr (to_int X) (8 * length X - b * out) (b * (out - suc j)) ∙ ap (λ (e : ℕ). to_int X / 2 ^ e) places)
  where
    parts : b * suc j + b * (out - suc j) ≡ b * out
    parts = sym (mul-add b (suc j) (out - suc j)) ∙ ap (λ (e : ℕ). b * e) (omega arith)

    places : 8 * length X - b * out + b * (out - suc j) ≡ 8 * length X - b * suc j
    places = omega (arith, parts)
