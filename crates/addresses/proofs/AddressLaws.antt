-- The laws of addresses in the code, by cases on the type: one below 7 has an address, and none above; a tree number
-- of 64 bits fills eight bytes.
-- Assumes nothing.
use mathlib.Core.Path.{◌≡◌, refl, ap}
use mathlib.Core.Bool.{Bool, true, false, cond}
use mathlib.Core.Option.{some, none}
use mathlib.Core.List.{◌∷◌}
use Prim.Native.Nat.{ℕ, ◌/◌, ◌%◌, ◌^◌, ◌<◌, ◌≤◌}
use native.Mathlib.Nat.{div-eq_of_lt, div-one, lt_of_lt_of_le}
use native.Mathlib.Omega.{arith}
use lib.Dec.{T, ltb, ltb→lt, lt→ltb}
use lib.Pow.{pow_mono}
use Rattle.std.specs.Prelude.{Result, Ok, Err}
use Rattle.std.specs.Result.{IsErr}
use Rattle.std.specs.Int.{w32, w64, to_be_bytes}
use Rattle.rules.specs.Digits.{digits}
use Rattle.rules.specs.Places.{address}
use Rattle.addresses.specs.declared.Address.{Address}
use Rattle.addresses.specs.declared.PlaceKind.{PlaceKind}
use Rattle.addresses.specs.declared.PlaceKind.TheVariants.{ChainStep, ChainEnds, TreeNode, ForestNode, ForestRoots}
use Rattle.addresses.specs.declared.PlaceKind.TheVariants.{ChainSecret, ForestSecret}
use Rattle.addresses.specs.declared.UnknownKind.{UnknownKind}
use Rattle.addresses.specs.Addresses.{number_of, made, place_at, address_at}

pub address_at_known : (y l t a b c : ℕ) → y < 7 → address_at y l t a b c ≡ some (address (place_at y l t a b c))
unfolding address_at
address_at_known y l t a b c h = by_test (ltb y 7) (lt→ltb y 7 h)
  where
    by_test : (x : Bool) → T x
        → cond x (some (address (place_at y l t a b c))) none ≡ some (address (place_at y l t a b c))
    by_test true q = refl
    by_test false q = absurd q

pub address_at_other : (y l t a b c : ℕ) → 7 ≤ y → address_at y l t a b c ≡ none
unfolding address_at
address_at_other y l t a b c h = by_test (ltb y 7) (λ q. omega (arith, ltb→lt y 7 q))
  where
    by_test : (x : Bool) → (T x → ⊥) → cond x (some (address (place_at y l t a b c))) none ≡ none
    by_test true q = absurd (q tt)
    by_test false q = refl

-- A type's number is below 7.
pub number_lt : (k : PlaceKind) → number_of k < 7
number_lt ChainStep = omega arith
number_lt ChainEnds = omega arith
number_lt TreeNode = omega arith
number_lt ForestNode = omega arith
number_lt ForestRoots = omega arith
number_lt ChainSecret = omega arith
number_lt ForestSecret = omega arith

-- An error is no address.
pub made_err : (r : Result Address UnknownKind) → IsErr r → made r ≡ none
made_err (Ok a) h = cc
made_err (Err e) h = refl

-- What `address_of` answers is the address of its number: these laws, for the tactics.
pub ruleset numbered = (address_at_known, address_at_other, number_lt, made_err)

-- Above a number's last byte nothing is left.
pub high_byte : (x k : ℕ) → x < 2 ^ 64 → 64 ≤ k → x / 2 ^ k % 256 ≡ 0
high_byte x k h l = ap (λ (y : ℕ). y % 256) (div-eq_of_lt (lt_of_lt_of_le h (pow_mono l)))

-- The four bytes of a word, and the twelve of a tree number of 64 bits, are std's.
pub word_bytes : (x : ℕ) → digits 8 4 x ≡ to_be_bytes w32 x
unfolding digits
word_bytes x = rw (div-one x)

pub tree_bytes_lem : (x : ℕ) → x < 2 ^ 64 → digits 8 12 x ≡ 0 ∷ 0 ∷ 0 ∷ 0 ∷ to_be_bytes w64 x
unfolding digits
tree_bytes_lem x h =
    rw (
      div-one x,
      high_byte x 88 h (omega arith),
      high_byte x 80 h (omega arith),
      high_byte x 72 h (omega arith),
      high_byte x 64 h (omega arith),
    )
