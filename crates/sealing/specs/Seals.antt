-- Sealing: its lines, its answer, and what the seal's buffer holds afterwards.
-- Assumes nothing.
use Rattle.std.specs.Prelude.{◌≡◌, List, [], ◌∷◌, ℕ, length}
use Rattle.std.proofs.Math.Option.{Option}
use Rattle.rules.specs.Places.{Bytes}
use Rattle.rules.specs.Sets.{Row}
use Rattle.rules.specs.Seal.{plain, frame, seal_of}
use Rattle.calls.specs.Hashes.{family_for}
use Rattle.answers.specs.Answers.{Answer, number, message_limit, settled}
use Rattle.answers.specs.Tests.{equal, within, either, known, under}
use Rattle.answers.specs.Lines.{Line, line, first}

-- Under the row of the set, if it has one: how many bytes a secret key, a message, a randomizer input and the buffer
-- have. A randomizer input has none, or n.
abbrev pub seal_lines : Option Row → (secret message random out : ℕ) → List Line
seal_lines row secret message random out =
    line 1 (known row)
    ∷ line 2 (under row (λ r. equal secret r.secret_bytes))
    ∷ line 2 (under row (λ r. either (equal random 0) (equal random r.n)))
    ∷ line 3 (within message message_limit)
    ∷ line 4 (under row (λ r. equal out r.seal_bytes))
    ∷ []

-- A secret key, a message, a randomizer input, and the buffer as it was lent.
module _ (row : Option Row) (secret message random out : Bytes) where
  abbrev pub seal_answer : ℕ
  seal_answer = first (seal_lines row (length secret) (length message) (length random) (length out))

  pub record Sealed (answer : Answer) (out-after : Bytes) : Type 0 where
    pub answered : number answer ≡ seal_answer
    pub out_is : out-after
        ≡ settled seal_answer row (λ r. (seal_of r (family_for r) secret random (frame (plain [] message))).result) out
