-- The tests that lines are made of: of each, whether it passes, what holds then, and what holds where it fails.
-- Assumes nothing.
use Rattle.std.specs.Prelude.{◌≡◌, ◌≢◌, ◌⊎◌, Bool, true, false, ◌||◌, ℕ, ◌≤◌, ◌<◌, eqb, leb, bytes_eq}
use Rattle.std.proofs.Math.Option.{Option, some, none}
use Rattle.rules.specs.Places.{Bytes}
use Rattle.rules.specs.Sets.{Row}

-- Two numbers are one; a number is within a limit; two strings are the same; one of two tests passes; the set has a
-- row; its row passes a test, which a set without one is not asked.
pub data Test : Type 0 where
  equal : (x y : ℕ) → Test
  within : (x limit : ℕ) → Test
  alike : (x y : Bytes) → Test
  either : (s t : Test) → Test
  known : (row : Option Row) → Test
  under : (row : Option Row) (test : Row → Test) → Test

abbrev pub passes : Test → Bool
passes (equal x y) = eqb x y
passes (within x limit) = leb x limit
passes (alike x y) = bytes_eq x y
passes (either s t) = passes s || passes t
passes (known none) = false
passes (known (some r)) = true
passes (under none test) = true
passes (under (some r) test) = passes (test r)

-- What holds where a test passes.
abbrev pub Holds : Test → Type 0
Holds (equal x y) = x ≡ y
Holds (within x limit) = x ≤ limit
Holds (alike x y) = x ≡ y
Holds (either s t) = Holds s ⊎ Holds t
Holds (known row) = (r : Row) × (row ≡ some r)
Holds (under row test) = (r : Row) → row ≡ some r → Holds (test r)

-- The set has a row, of which P holds.
pub record Under (row : Option Row) (P : Row → Type 0) : Type 0 where
  pub known : Row
  pub found : row ≡ some known
  pub holds : P known

-- What holds where it fails.
abbrev pub Fails : Test → Type 0
Fails (equal x y) = x ≢ y
Fails (within x limit) = limit < x
Fails (alike x y) = x ≢ y
Fails (either s t) = Fails s × Fails t
Fails (known row) = row ≡ none
Fails (under row test) = Under row (λ r. Fails (test r))
