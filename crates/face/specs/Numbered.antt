-- The desk's promises, with the answer told as the paper's number.
-- Assumes nothing.
use Rattle.std.specs.Prelude.{◌≡◌, ℕ}
use Rattle.std.proofs.Math.Option.{Option}
use Rattle.rules.specs.Places.{Bytes}
use Rattle.rules.specs.Sets.{Row}
use Rattle.answers.specs.Answers.{Answer, number}
use Rattle.checking.specs.Checks.{Checked}

-- What is promised of an answer, where n is its number. An answer is known by its number.
pub record Numbered (n : ℕ) (Promise : Answer → Type 0) : Type 0 where
  pub answer : Answer
  pub numbered : n ≡ number answer
  pub promised : Promise answer

-- The promise of a check, of its answer and its F calls one by one.
abbrev pub CheckedAs : Option Row → (public message seal : Bytes) → Answer → (calls : ℕ) → Type 0
CheckedAs row public message seal answer calls = Checked row public message seal
    (record { answer = answer; calls = calls })
