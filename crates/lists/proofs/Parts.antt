-- Laws on joined lists and their parts, each by recursion on a list or by the kit's laws of take and drop.
-- Assumes nothing.
use mathlib.Core.Path.{◌≡◌, refl, sym, ap, ◌∙◌}
use mathlib.Core.List.{List, [], ◌∷◌, ◌++◌}
use Prim.Native.Nat.{ℕ, zero, suc, ◌+◌, ◌*◌, ◌≤◌, ◌<◌}
use native.Mathlib.Nat.{suc-ne-zero, suc-mul, add_comm, mul-le-mul_right, zero-add, suc-add}
use native.Mathlib.Omega.{arith}
use lib.ListN.{length, take, drop, length-drop}
use lib.Seq.{take_at, drop_at, take-take, take-nil, length-take-le, drop-drop}

module _ {A : Type 0} where
  -- A list of no elements is empty.
  pub nil_of_length : (x : List A) → length x ≡ 0 → x ≡ []
  nil_of_length [] e = refl
  nil_of_length (a ∷ x) e = absurd (suc-ne-zero _ e)

  -- Where two joined lists are equal and their fronts have one length, the fronts are equal and so are the rests.
  pub append_inj : {n : ℕ} {a b c d : List A} → length a ≡ n → length c ≡ n → a ++ b ≡ c ++ d → (a ≡ c) × (b ≡ d)
  append_inj {n} {a} {b} {c} {d} la lc e = (
    sym (take_at a b n la) ∙ ap (take n) e ∙ take_at c d n lc,
    sym (drop_at a b n la) ∙ ap (drop n) e ∙ drop_at c d n lc,
  )

  -- A part of a front is that part of the whole.
  pub take_drop_take : (n j K : ℕ) (l : List A) → j + n ≤ K → take n (drop j (take K l)) ≡ take n (drop j l)
  take_drop_take n zero K l h = take-take n K l (omega arith)
  take_drop_take n (suc j) zero l h = absurd (omega arith)
  take_drop_take n (suc j) (suc K) [] h = refl
  take_drop_take n (suc j) (suc K) (x ∷ l) h = take_drop_take n j K l (omega arith)

  -- The rest of a front is a front of the rest.
  pub drop_take : (n k : ℕ) (l : List A) → drop n (take (n + k) l) ≡ take k (drop n l)
  drop_take zero k l = ap (λ (x : ℕ). take x l) (zero-add k)
  drop_take (suc n) k [] = ap (λ (x : ℕ). drop (suc n) (take x [])) (suc-add n k) ∙ sym (take-nil k)
  drop_take (suc n) k (x ∷ l) = ap (λ (y : ℕ). drop (suc n) (take y (x ∷ l))) (suc-add n k) ∙ drop_take n k l

  -- A part that lies within a list has the length asked for.
  pub length_part : (n j : ℕ) (l : List A) → j + n ≤ length l → length (take n (drop j l)) ≡ n
  length_part n j l h = length-take-le n (drop j l) (simp length-drop (omega arith))

  -- What stands m places after the first n.
  pub drop_to : (n m k : ℕ) (l : List A) → k ≡ n + m → drop m (drop n l) ≡ drop k l
  drop_to n m k l e = drop-drop m n l ∙ ap (λ (x : ℕ). drop x l) (sym e)

  -- Beyond a front of n elements, piece j + 1 of n elements is piece j of the rest.
  pub piece_suc : (n j : ℕ) (a b : List A) → length a ≡ n → drop (suc j * n) (a ++ b) ≡ drop (j * n) b
  piece_suc n j a b e =
      ap (λ (x : ℕ). drop x (a ++ b)) (suc-mul j n ∙ add_comm (j * n) n)
      ∙ sym (drop-drop (j * n) n (a ++ b)) ∙ ap (drop (j * n)) (drop_at a b n e)

-- A front part that was lent and filled with g of its length.
pub front_part : (g : ℕ → List ℕ) (n : ℕ) {m : ℕ} {ys : List ℕ} (rest : List ℕ) → ys ≡ g m → length ys ≡ m → m ≡ n
    → take n (ys ++ rest) ≡ g n
front_part g n {m} {ys} rest e l k = take_at ys rest n (l ∙ k) ∙ e ∙ ap g k

-- Piece j of n elements ends within d pieces.
pub piece_room : (j d n : ℕ) → j < d → j * n + n ≤ d * n
piece_room j d n h = omega (arith, mul-le-mul_right n h, suc-mul j n)

-- Parts that fill a whole fill it under any name of their length.
pub parts_fill : (d n : ℕ) {whole long : ℕ} → whole ≡ d * long → n ≡ long → whole ≡ d * n
parts_fill d n e f = e ∙ ap (λ (x : ℕ). d * x) (sym f)

-- Where d parts of n elements fill a whole, part j ends within it.
pub part_room : (j d n at : ℕ) {whole : ℕ} → j < d → at ≡ j * n → whole ≡ d * n → at + n ≤ whole
part_room j d n at h e f = omega (arith, piece_room j d n h)
