-- A part of a list that code lends from one place to another is the part of that length from the place on.
-- Assumes nothing.
use mathlib.Core.Path.{◌≡◌, ap}
use mathlib.Core.List.{List}
use Prim.Native.Nat.{ℕ, ◌+◌, ◌-◌}
use native.Mathlib.Nat.{sub-zero}
use native.Mathlib.Omega.{arith}
use lib.ListN.{take, drop}

-- The part from `at` to `at + n`, as code lends it, is the n elements from `at` on.
pub lent : {A : Type 0} (at n : ℕ) (l : List A) → take (at + n - at) (drop at l) ≡ take n (drop at l)
lent at n l =
    let e : at + n - at ≡ n = omega arith in
    rw e

-- The front of a list, as code lends it.
pub front : {A : Type 0} (m : ℕ) (l : List A) → take (m - 0) l ≡ take m l
front m l = ap (λ (k : ℕ). take k l) (sub-zero m)
