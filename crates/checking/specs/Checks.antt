-- Checking: its lines, its answer, and how many F calls it made.
-- Assumes nothing.
use Rattle.std.specs.Prelude.{◌≡◌, cond, ◌||◌, List, [], ◌∷◌, ◌++◌, ℕ, eqb, length, Result, Ok, Err}
use Rattle.std.proofs.Math.Option.{Option, some, none}
use Rattle.rules.specs.Places.{Bytes}
use Rattle.rules.specs.Calls.{F, of, Run}
use Rattle.rules.specs.Sets.{Row}
use Rattle.rules.specs.Keys.{piece}
use Rattle.rules.specs.Seal.{plain, frame}
use Rattle.rules.specs.Check.{checked_root}
use Rattle.counts.specs.Counts.{count}
use Rattle.calls.specs.Hashes.{family_for}
use Rattle.answers.specs.Answers.{number, message_limit}
use Rattle.answers.specs.declared.Refusal.{Refusal}
use Rattle.answers.specs.Tests.{equal, within, alike, known, under}
use Rattle.answers.specs.Lines.{Line, line, first}
use Rattle.checking.specs.declared.Verdict.{Verdict}

-- Under the row of the set, if it has one: how many bytes a public key, a message and a presented seal have. These
-- lines are tested before any walk.
abbrev pub length_lines : Option Row → (public message seal : ℕ) → List Line
length_lines row public message seal =
    line 1 (known row)
    ∷ line 2 (under row (λ r. equal public r.public_bytes))
    ∷ line 3 (within message message_limit)
    ∷ line 4 (under row (λ r. equal seal r.seal_bytes))
    ∷ []

-- A public key, a message and a presented seal.
module _ (row : Option Row) (public message seal : Bytes) where
  abbrev pub recomputed : (r : Row) → Run Bytes
  recomputed r = checked_root r (family_for r) public (frame (plain [] message)) seal

  -- After the walk: the recomputed root is the key's.
  abbrev pub root_line : Line
  root_line = line 5 (under row (λ r. alike (recomputed r).result (piece r.n 1 public)))

  abbrev pub check_lines : List Line
  check_lines = length_lines row (length public) (length message) (length seal) ++ (root_line ∷ [])

  abbrev pub check_answer : ℕ
  check_answer = first check_lines

  -- The F calls in the definition's list, where the check walked: for answers 0 and 5.
  abbrev f_calls_under : Option Row → ℕ
  f_calls_under none = 0
  f_calls_under (some r) = count (of F) (recomputed r).calls

  abbrev pub check_calls : ℕ
  check_calls = cond (eqb check_answer 0 || eqb check_answer 5) (f_calls_under row) 0

  pub record Checked (verdict : Verdict) : Type 0 where
    pub answered : number verdict.answer ≡ check_answer
    pub counted : verdict.calls ≡ check_calls

-- The verdict where a line before the walk may refuse: then no F call was made.
abbrev pub verdict : Result Verdict Refusal → Verdict
verdict (Ok v) = v
verdict (Err refusal) = record { answer = Err refusal; calls = 0 }
