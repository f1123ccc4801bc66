-- Chain digits: the lines, the answer, and what the list holds afterwards.
-- Assumes nothing.
use Rattle.std.specs.Prelude.{◌≡◌, List, [], ◌∷◌, ℕ, length}
use Rattle.std.proofs.Math.Option.{Option}
use Rattle.rules.specs.Places.{Bytes}
use Rattle.rules.specs.Sets.{Row}
use Rattle.rules.specs.Chains.{chains, chain_digits}
use Rattle.answers.specs.Answers.{Answer, number, settled}
use Rattle.answers.specs.Tests.{equal, known, under}
use Rattle.answers.specs.Lines.{Line, line, first}

-- Under the row of the set, if it has one: how many bytes a value has, and how many numbers the list.
abbrev pub digits_lines : Option Row → (value digits : ℕ) → List Line
digits_lines row value digits =
    line 1 (known row)
    ∷ line 2 (under row (λ r. equal value r.n))
    ∷ line 4 (under row (λ r. equal digits (chains r.n)))
    ∷ []

-- A value, and the list as it was lent.
module _ (row : Option Row) (value : Bytes) (digits : List ℕ) where
  abbrev pub digits_answer : ℕ
  digits_answer = first (digits_lines row (length value) (length digits))

  pub record DigitsRead (answer : Answer) (digits-after : List ℕ) : Type 0 where
    pub answered : number answer ≡ digits_answer
    pub digits_are : digits-after ≡ settled digits_answer row (λ r. chain_digits r.n value) digits
