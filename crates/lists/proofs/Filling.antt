-- Laws on a list that is written, element after element or in two parts, by the kit's laws of take, drop and set.
-- Assumes nothing.
use mathlib.Core.Path.{◌≡◌, sym, ap, ap₂, ◌∙◌}
use mathlib.Core.List.{List, [], ◌∷◌, ◌++◌, append-nil, append_assoc}
use Prim.Native.Nat.{ℕ, ◌+◌, ◌-◌, ◌≤◌, ◌<◌}
use native.Mathlib.Nat.{le_of_eq}
use native.Mathlib.Numerals.{add-one}
use native.Mathlib.Omega.{arith}
use lib.ListN.{length, take, drop, get_or, set, length-append, length-drop, drop_of_length-le, take-append-drop}
use lib.Seq.{take-suc, take-suc-set, take_all, take_at, length-take-le, drop-drop}
use borrow.Rule.Slice.PartMut.{put_mid, drop_put}

module _ {A : Type 0} where
  -- Where the first j elements agree, and the next is written as it should be, the first j + 1 agree.
  pub fill_turn : (d : A) (l goal : List A) (j : ℕ) (v : A) → j < length l → j < length goal → v ≡ get_or goal j d
      → take j l ≡ take j goal → take (j + 1) (set l j v) ≡ take (j + 1) goal
  fill_turn d l goal j v hl hg e r =
      rw (add-one j, take-suc-set l j v hl, take-suc goal j d hg) (ap₂ (λ (x : List A) (y : A). x ++ (y ∷ [])) r e)

  -- Where as many elements agree as both lists have, the lists are equal.
  pub fill_end : (l goal : List A) (j : ℕ) → length l ≤ j → length goal ≤ j → take j l ≡ take j goal → l ≡ goal
  fill_end l goal j hl hg r = sym (take_all j l hl) ∙ r ∙ take_all j goal hg

  -- The part from element m to the end is what is left without the first m.
  pub rest_read : (m : ℕ) (l : List A) → take (length l - m) (drop m l) ≡ drop m l
  rest_read m l = take_all (length l - m) (drop m l) (le_of_eq (length-drop m l))

  -- It is that much shorter.
  pub rest_long : (m : ℕ) (l : List A) → m ≤ length l → length (take (length l - m) (drop m l)) + m ≡ length l
  rest_long m l h = ap (λ (x : List A). length x + m) (rest_read m l) ∙ omega (arith, length-drop m l)

  -- What was written over the rest of a list, from element m on, follows the first m.
  pub rest_written : (m : ℕ) (l ys : List A) → put_mid m (length l - m) l ys ≡ take m l ++ ys
  rest_written m l ys =
      ap (λ (r : List A). take m l ++ (ys ++ r)) (drop_of_length-le (drop m l) (le_of_eq (length-drop m l)))
      ∙ ap (λ (r : List A). take m l ++ r) (append-nil ys)

  -- A part of n elements at `at` that was lent and came back as ys: what precedes it, and then ys.
  pub part_written : (at n : ℕ) (l ys : List A) → at + n ≤ length l → length ys ≡ n
      → take (at + n) (put_mid at (at + n - at) l ys) ≡ take at l ++ ys
  part_written at n l ys h e =
      ap (take (at + n)) (sym (append_assoc (take at l) ys _))
      ∙ take_at (take at l ++ ys) _ (at + n)
      (length-append (take at l) ys ∙ ap₂ ◌+◌ (length-take-le at l (omega arith)) e)

  -- A part of n elements that lies within the list has n.
  pub lent_length : (at n : ℕ) (l : List A) → at + n ≤ length l → length (take (at + n - at) (drop at l)) ≡ n
  lent_length at n l h =
      let k : at + n - at ≡ n = omega arith in
      rw k (length-take-le n (drop at l) (simp length-drop (omega arith)))

  -- What follows the part stays.
  pub part_rest : (at n : ℕ) (l ys : List A) → at + n ≤ length l → length ys ≡ n
      → drop (at + n) (put_mid at (at + n - at) l ys) ≡ drop (at + n) l
  part_rest at n l ys h e = drop_put at (at + n) l ys (omega arith) h (e ∙ omega arith)

  -- The part, and what follows it, is what stands from `at` on.
  pub lent_split : (at n : ℕ) (l : List A) → drop at l ≡ take (at + n - at) (drop at l) ++ drop (at + n) l
  lent_split at n l =
      sym (take-append-drop (at + n - at) (drop at l))
      ∙ ap (λ (x : List A). take (at + n - at) (drop at l) ++ x)
      (drop-drop (at + n - at) at l ∙ ap (λ (k : ℕ). drop k l) places)
    where
      places : at + (at + n - at) ≡ at + n
      places = omega arith
