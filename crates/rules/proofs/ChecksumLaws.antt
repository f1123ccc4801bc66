-- Of two different values each has a chain digit lower than the other's: if no digit of one is lower, its number is no
-- smaller and its checksum no greater, and the checksum's digits turn the second around.
-- Assumes nothing.
use mathlib.Core.Path.{◌≡◌, refl, sym, ap, ap₂, ◌∙◌}
use mathlib.Core.Logic.{◌≢◌, ◌⊎◌, inl, inr}
use mathlib.Core.List.{List, [], ◌∷◌, ◌++◌}
use Prim.Native.Nat.{ℕ, suc, ◌+◌, ◌*◌, ◌/◌, ◌^◌, ◌≤◌, ◌<◌}
use native.Mathlib.Nat.{mod-eq_of_lt, zero-lt-suc, le_refl, add-le-add, mul-le-mul_right, suc_inj, mul-div_cancel}
use native.Mathlib.Decide.{dec_lt}
use native.Mathlib.Omega.{arith}
use lib.ListN.{length, get_or, length-append}
use Rattle.lists.specs.Below.{Below}
use Rattle.lists.proofs.Below.{below_append}
use Rattle.rules.specs.Digits.{value, digits, base2b, to_byte}
use Rattle.rules.specs.Places.{Bytes, IsBytes}
use Rattle.rules.specs.Chains.{chains, steps, own_digits, checksum, chain_digits}
use Rattle.lists.proofs.Parts.{append_inj}
use Rattle.rules.proofs.DigitLaws.{length_digits, length-base2b, base2b_below, value_digits, base2b_inj}

-- ---- One list of digits over another: none of its digits is lower

data Over : List ℕ → List ℕ → Type 0 where
  nil : Over [] []
  cons : {d e : ℕ} {ds es : List ℕ} → e ≤ d → Over ds es → Over (d ∷ ds) (e ∷ es)

head : {d e : ℕ} {ds es : List ℕ} → Over (d ∷ ds) (e ∷ es) → e ≤ d
head (cons h o) = h

tail : {d e : ℕ} {ds es : List ℕ} → Over (d ∷ ds) (e ∷ es) → Over ds es
tail (cons h o) = o

-- The first digit of the one list that is lower than the other's.
abbrev pub Lower : List ℕ → List ℕ → Type 0
Lower ds es = (c : ℕ) × (c < length ds) × (get_or ds c 0 < get_or es c 0)

lower_or_over : (ds es : List ℕ) → length ds ≡ length es → Lower ds es ⊎ Over ds es
lower_or_over [] [] l = inr nil
lower_or_over [] (e ∷ es) l = absurd (omega arith)
lower_or_over (d ∷ ds) [] l = absurd (omega arith)
lower_or_over (d ∷ ds) (e ∷ es) l = first (dec_lt d e) (lower_or_over ds es (suc_inj l))
  where
    first : Dec (d < e) → Lower ds es ⊎ Over ds es → Lower (d ∷ ds) (e ∷ es) ⊎ Over (d ∷ ds) (e ∷ es)
    first (yes h) r = inl (0, omega arith, h)
    first (no h) (inl (c, b, h')) = inl (suc c, omega arith, h')
    first (no h) (inr o) = inr (cons {d = d} {e = e} (omega arith) o)

over_length : {ds es : List ℕ} → Over ds es → length ds ≡ length es
over_length nil = refl
over_length (cons h o) = ap suc (over_length o)

-- What is over stands for a number that is no smaller, and has a sum of (15 - digit) that is no greater.
over_value : (b : ℕ) {ds es : List ℕ} → Over ds es → value b es ≤ value b ds
unfolding value
over_value b nil = le_refl 0
over_value b (cons {d = d} {e = e} {ds = ds} {es = es} h o) =
    rw (over_length o) (add-le-add (mul-le-mul_right (2 ^ (b * length es)) h) (over_value b o))

over_steps : {ds es : List ℕ} → Over ds es → steps ds ≤ steps es
unfolding steps
over_steps nil = le_refl 0
over_steps (cons h o) = let r = over_steps o in omega arith

-- What is over, with a sum that is no smaller, is equal.
over_equal : {ds es : List ℕ} → Below 16 ds → Over ds es → steps es ≤ steps ds → ds ≡ es
unfolding steps
over_equal b nil h = refl
over_equal b (cons e≤ o) h =
    let r = over_steps o in
    let d< = b 0 in
    ap₂ ◌∷◌ (omega arith) (over_equal (λ i. b (suc i)) o (omega arith))

over_split : (xs ys : List ℕ) {bs ds : List ℕ} → length xs ≡ length ys → Over (xs ++ bs) (ys ++ ds)
    → Over xs ys × Over bs ds
over_split [] [] l o = (nil, o)
over_split [] (y ∷ ys) l o = absurd (omega arith)
over_split (x ∷ xs) [] l o = absurd (omega arith)
over_split (x ∷ xs) (y ∷ ys) l o = let q = over_split xs ys (suc_inj l) (tail o) in (cons (head o) q.0, q.1)

-- ---- The digits of a value

-- Each digit adds at most 15.
pub steps_le : (ds : List ℕ) → steps ds ≤ 15 * length ds
unfolding steps
steps_le [] = le_refl 0
steps_le (d ∷ ds) = let r = steps_le ds in omega arith

-- The checksum's digits are the last three digits of the checksum.
checksum_digits_lem : (c : ℕ) → c < 16 ^ 3 → base2b (to_byte (c * 16) 2) 4 3 ≡ digits 4 3 c
unfolding base2b
checksum_digits_lem c h =
    rw (length_digits 8 2 (c * 16), value_digits 8 2 (c * 16))
    (ap (digits 4 3) (ap (λ (x : ℕ). x / 16) (mod-eq_of_lt (omega arith)) ∙ mul-div_cancel c (zero-lt-suc 15)))

pub length_own : (n : ℕ) (M : Bytes) → length (own_digits n M) ≡ 2 * n
unfolding own_digits
length_own n M = length-base2b M 4 (2 * n)

own_below : (n : ℕ) (M : Bytes) → Below 16 (own_digits n M)
unfolding own_digits
own_below n M = base2b_below M 4 (2 * n)

own_inj : (n : ℕ) (M N : Bytes) → IsBytes n M → IsBytes n N → own_digits n M ≡ own_digits n N → M ≡ N
unfolding own_digits
own_inj n M N h_m h_n e =
    base2b_inj 4 (2 * n) M N h_m.small h_n.small (omega (arith, h_m.long)) (omega (arith, h_n.long)) e

-- The checksum is at most 30·n.
pub checksum_le : (n : ℕ) (M : Bytes) → checksum n M ≤ 30 * n
unfolding checksum
checksum_le n M = omega (arith, steps_le (own_digits n M), length_own n M)

pub chain_digits_below : (n : ℕ) (M : Bytes) → Below 16 (chain_digits n M)
unfolding chain_digits
chain_digits_below n M = below_append 16 (own_digits n M) _ (own_below n M) (base2b_below _ 4 3)

pub length-chain_digits : (n : ℕ) (M : Bytes) → length (chain_digits n M) ≡ chains n
unfolding chain_digits
length-chain_digits n M = length-append (own_digits n M) _ ∙ ap₂ ◌+◌ (length_own n M) (length-base2b _ 4 3)

module _ (n : ℕ) (fits : 30 * n < 16 ^ 3) where
  pub checksum_lt : (M : Bytes) → checksum n M < 16 ^ 3
  checksum_lt M = omega (arith, checksum_le n M)

  -- The chain digits are the value's own, and then the checksum's last three.
  pub chain_digits_lem : (M : Bytes) → chain_digits n M ≡ own_digits n M ++ digits 4 3 (checksum n M)
  unfolding chain_digits
  chain_digits_lem M = ap (λ (x : List ℕ). own_digits n M ++ x) (checksum_digits_lem (checksum n M) (checksum_lt M))

  -- If no chain digit of M is lower than N's, the two are equal.
  over_same : (M N : Bytes) → IsBytes n M → IsBytes n N → Over (chain_digits n M) (chain_digits n N) → M ≡ N
  unfolding checksum
  over_same M N h_m h_n o =
      let q = over_split (own_digits n M) (own_digits n N) (length_own n M ∙ sym (length_own n N))
      (rw (chain_digits_lem M, chain_digits_lem N) at o) in
      let v : checksum n N ≤ checksum n M =
      rw (
        value_digits 4 3 (checksum n M),
        value_digits 4 3 (checksum n N),
        mod-eq_of_lt (checksum_lt M),
        mod-eq_of_lt (checksum_lt N),
      ) at (over_value 4 q.1) in
      own_inj n M N h_m h_n (over_equal (own_below n M) q.0 v)

  -- Of two different values of n bytes, each has a chain digit lower than the other's at that chain: the first such.
  pub lower_digit : (M N : Bytes) → IsBytes n M → IsBytes n N → M ≢ N
      → (c : ℕ) × (c < chains n) × (get_or (chain_digits n M) c 0 < get_or (chain_digits n N) c 0)
  lower_digit M N h_m h_n ne =
      found (lower_or_over (chain_digits n M) (chain_digits n N)
      (length-chain_digits n M ∙ sym (length-chain_digits n N)))
    where
      found : Lower (chain_digits n M) (chain_digits n N) ⊎ Over (chain_digits n M) (chain_digits n N)
          → (c : ℕ) × (c < chains n) × (get_or (chain_digits n M) c 0 < get_or (chain_digits n N) c 0)
      found (inl (c, h, r)) = (c, rw (length-chain_digits n M) at h, r)
      found (inr o) = absurd (ne (over_same M N h_m h_n o))

  -- Chain digits are injective on values of one length.
  pub chain_digits_inj : (M N : Bytes) → IsBytes n M → IsBytes n N → chain_digits n M ≡ chain_digits n N → M ≡ N
  chain_digits_inj M N h_m h_n e =
      own_inj n M N h_m h_n
      (append_inj (length_own n M) (length_own n N) (sym (chain_digits_lem M) ∙ e ∙ chain_digits_lem N)).0
