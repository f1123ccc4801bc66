-- The lines of an operation: each has a number, and applies where its test fails. They stand in the order in which they
-- are tested, and the first that applies is the answer.
-- Assumes nothing.
use Rattle.std.specs.Prelude.{Bool, true, not, cond, ◌&&◌, List, [], ◌∷◌, ℕ, eqb}
use Rattle.answers.specs.Tests.{Test, passes, Holds}

pub record Line : Type 0 where
  pub number : ℕ
  pub test : Test

abbrev pub line : (number : ℕ) (test : Test) → Line
line number test = record { number = number; test = test }

-- The number of the first line that applies, and 0 where none does.
unfoldable pub first : List Line → ℕ
first [] = 0
first (l ∷ ls) = cond (passes l.test) (first ls) l.number

-- No line applies.
abbrev pub NoneApplies : List Line → Type 0
NoneApplies [] = Unit {0}
NoneApplies (l ∷ ls) = Holds l.test × NoneApplies ls

-- No line has the number.
abbrev pub lacks : (number : ℕ) → List Line → Bool
lacks k [] = true
lacks k (l ∷ ls) = not (eqb l.number k) && lacks k ls
