-- The table "When the desk says no" in propositions: which number is given, and when.
-- Assumes nothing.
use Rattle.std.specs.Prelude.{◌≡◌, ◌≢◌, ◌⊎◌, Bool, true, false, not, ◌&&◌, ◌||◌, List, [], ◌∷◌, ℕ, ◌≤◌, ◌<◌}
use Rattle.std.specs.Prelude.{eqb, ltb, length}
use Rattle.rules.specs.Places.{Bytes}
use Rattle.rules.specs.Sets.{Row}
use Rattle.answers.specs.Answers.{message_limit}
use Rattle.answers.specs.Tests.{passes, Holds, Fails}
use Rattle.answers.specs.Lines.{Line}

-- ---- The number given

-- Number k comes before c: by size, and 5, which is known after the walk, after all others.
abbrev pub Before : (k c : ℕ) → Type 0
Before k c = (k ≢ 5) × ((c ≡ 5) ⊎ (k < c))

-- The number given, where `applies k` says that line k applies: 0 where none does, and else that of the line that
-- applies and has none before it that does.
pub data Given (applies : ℕ → Type 0) (c : ℕ) : Type 0 where
  none_applies : c ≡ 0 → ((k : ℕ) → ¬ applies k) → Given applies c
  first_applies : applies c → ((k : ℕ) → Before k c → ¬ applies k) → Given applies c

-- Line k applies: a line of that number has a test that fails. In propositions, and as a truth value.
abbrev pub Applies : List Line → (k : ℕ) → Type 0
Applies [] k = ⊥
Applies (l ∷ ls) k = ((l.number ≡ k) × Fails l.test) ⊎ Applies ls k

unfoldable pub applies : List Line → (k : ℕ) → Bool
applies [] k = false
applies (l ∷ ls) k = (eqb l.number k && not (passes l.test)) || applies ls k

-- Lines in any order: the number of the first that applies, and 0 where none does.
abbrev pub First : List Line → (c : ℕ) → Type 0
First [] c = c ≡ 0
First (l ∷ ls) c = (Fails l.test × (l.number ≡ c)) ⊎ (Holds l.test × First ls c)

-- The test that lines stand in the order of `Before`: no later one has a number that comes before an earlier one's.
abbrev pub before : (k c : ℕ) → Bool
before k c = not (eqb k 5) && (eqb c 5 || ltb k c)

unfoldable pub none_before : (c : ℕ) → List Line → Bool
none_before c [] = true
none_before c (l ∷ ls) = not (before l.number c) && none_before c ls

unfoldable pub ordered : List Line → Bool
ordered [] = true
ordered (l ∷ ls) = none_before l.number ls && ordered ls

-- A number that no row has.
unfoldable pub Unlisted : (set : ℕ) → List Row → Type 0
Unlisted set [] = Unit {0}
Unlisted set (r ∷ rs) = (set ≢ r.number) × Unlisted set rs

-- A message within the limit.
abbrev pub Fitting : (message : Bytes) → Type 0
Fitting message = length message ≤ message_limit
