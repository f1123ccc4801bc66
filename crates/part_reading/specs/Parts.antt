-- Part reading: its lines, its answer, and the part.
-- Assumes nothing.
use Rattle.std.specs.Prelude.{◌≡◌, List, [], ◌∷◌, ℕ, suc, ◌+◌, length, Result, Ok}
use Rattle.std.specs.Result.{result_and, result_unwrap_or}
use Rattle.std.proofs.Math.Option.{Option}
use Rattle.rules.specs.Places.{Bytes}
use Rattle.rules.specs.Sets.{Row}
use Rattle.rules.specs.Seal.{part_start, part_length, part}
use Rattle.answers.specs.Answers.{number, settled}
use Rattle.answers.specs.Tests.{equal, within, known, under}
use Rattle.answers.specs.Lines.{Line, line, first}
use Rattle.answers.specs.declared.Refusal.{Refusal}
use Rattle.part_reading.specs.declared.Extent.{Extent}
use Rattle.part_reading.specs.declared.PartKind.{PartKind}
use Rattle.part_reading.specs.declared.PartKind.TheVariants.{Randomizer, Forest, Layer}

-- Under the row of the set, if it has one: how many bytes a seal has, and the part's number.
abbrev pub part_lines : Option Row → (seal number : ℕ) → List Line
part_lines row seal number =
    line 1 (known row)
    ∷ line 4 (under row (λ r. equal seal r.seal_bytes))
    ∷ line 6 (under row (λ r. within number (r.d + 1)))
    ∷ []

-- Where the byte of a number lies in a lent string, by where the string lies: a block of memory and an offset there.
abbrev pub byte_at : (string : ℕ × ℕ) (number : ℕ) → ℕ × ℕ
byte_at string number = (string.0, number + string.1)

-- A seal, and the part's number.
module _ (row : Option Row) (seal : Bytes) (number : ℕ) where
  abbrev pub part_answer : ℕ
  part_answer = first (part_lines row (length seal) number)

  -- Empty with every refusal.
  abbrev pub part_given : Bytes
  part_given = settled part_answer row (λ r. part r number seal) []

  -- Where the part lies: both 0 with every refusal.
  abbrev pub start_given : ℕ
  start_given = settled part_answer row (λ r. part_start r number) 0

  abbrev pub length_given : ℕ
  length_given = settled part_answer row (λ r. part_length r number) 0

-- ---- For the code

-- The number of the part of a kind.
abbrev pub kind_number : PartKind → ℕ
kind_number Randomizer = 0
kind_number Forest = 1
kind_number (Layer j) = suc (suc j)

-- What is told of the place of a part, or refused: then both numbers stand for 0.
pub record Located (row : Option Row) (seal : Bytes) (k : ℕ) (found : Result Extent Refusal) : Type 0 where
  pub answered : number (result_and found (Ok tt)) ≡ part_answer row seal k
  pub start_is : (result_unwrap_or found (record { start = 0; length = 0 })).start ≡ start_given row seal k
  pub length_is : (result_unwrap_or found (record { start = 0; length = 0 })).length ≡ length_given row seal k
