-- Lists of small numbers: the bound at each place is kept by what takes lists apart and joins them.
-- Assumes nothing.
use mathlib.Core.Bool.{Bool, true, false, ◌&&◌}
use mathlib.Core.List.{List, [], ◌∷◌, ◌++◌}
use Prim.Native.Nat.{ℕ, zero, suc, ◌<◌}
use lib.Dec.{T, ltb, ltb→lt}
use lib.ListN.{take, drop, replicate}
use Rattle.lists.specs.Below.{Below}

left : (a b : Bool) → T (a && b) → T a
left true b t = tt
left false b t = t

right : (a b : Bool) → T (a && b) → T b
right true b t = t
right false b t = absurd t

-- no elements are below any positive number
pub below_nil : (n : ℕ) → 0 < n → Below n []
below_nil n h i = h

-- one element more
pub below_cons : (n x : ℕ) (l : List ℕ) → x < n → Below n l → Below n (x ∷ l)
below_cons n x l h t zero = h
below_cons n x l h t (suc i) = t i

-- two lists joined
pub below_append : (n : ℕ) (s t : List ℕ) → Below n s → Below n t → Below n (s ++ t)
below_append n [] t hs ht = ht
below_append n (x ∷ s) t hs ht = below_cons n x (s ++ t) (hs zero) (below_append n s t (λ i. hs (suc i)) ht)

-- the same number many times
pub below_replicate : (n k x : ℕ) → 0 < n → x < n → Below n (replicate k x)
below_replicate n zero x p h = below_nil n p
below_replicate n (suc k) x p h = below_cons n x (replicate k x) h (below_replicate n k x p h)

-- a list's front
pub below_take : (n k : ℕ) (l : List ℕ) → 0 < n → Below n l → Below n (take k l)
below_take n zero l p h = below_nil n p
below_take n (suc k) [] p h = below_nil n p
below_take n (suc k) (x ∷ l) p h = below_cons n x (take k l) (h zero) (below_take n k l p (λ i. h (suc i)))

-- a list without its front
pub below_drop : (n k : ℕ) (l : List ℕ) → Below n l → Below n (drop k l)
below_drop n zero l h = h
below_drop n (suc k) [] h = h
below_drop n (suc k) (x ∷ l) h = below_drop n k l (λ i. h (suc i))

abbrev pub all_below : ℕ → List ℕ → Bool
all_below n [] = true
all_below n (x ∷ l) = ltb x n && all_below n l

-- a list of numerals, by a test that antt computes
pub below_test : (n : ℕ) (l : List ℕ) → 0 < n → T (all_below n l) → Below n l
below_test n [] p t = below_nil n p
below_test n (x ∷ l) p t =
    below_cons n x l (ltb→lt x n (left (ltb x n) (all_below n l) t))
    (below_test n l p (right (ltb x n) (all_below n l) t))
