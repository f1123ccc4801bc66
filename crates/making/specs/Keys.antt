-- Key making: its lines, its answer, and what both keys' buffers hold afterwards.
-- Assumes nothing.
use Rattle.std.specs.Prelude.{◌≡◌, List, [], ◌∷◌, ℕ, length}
use Rattle.std.proofs.Math.Option.{Option}
use Rattle.rules.specs.Places.{Bytes}
use Rattle.rules.specs.Sets.{Row}
use Rattle.rules.specs.Keys.{public_key, secret_key}
use Rattle.calls.specs.Hashes.{family_for}
use Rattle.answers.specs.Answers.{Answer, number, settled}
use Rattle.answers.specs.Tests.{equal, known, under}
use Rattle.answers.specs.Lines.{Line, line, first}

-- Under the row of the set, if it has one: how many bytes three seeds and both buffers have.
abbrev pub keys_lines : Option Row → (sk_seed sk_prf pk_seed public secret : ℕ) → List Line
keys_lines row sk_seed sk_prf pk_seed public secret =
    line 1 (known row)
    ∷ line 2 (under row (λ r. equal sk_seed r.n))
    ∷ line 2 (under row (λ r. equal sk_prf r.n))
    ∷ line 2 (under row (λ r. equal pk_seed r.n))
    ∷ line 4 (under row (λ r. equal public r.public_bytes))
    ∷ line 4 (under row (λ r. equal secret r.secret_bytes))
    ∷ []

-- Three seeds, and both buffers as they were lent.
module _ (row : Option Row) (sk_seed sk_prf pk_seed public secret : Bytes) where
  abbrev pub keys_answer : ℕ
  keys_answer = first (keys_lines row (length sk_seed) (length sk_prf) (length pk_seed) (length public) (length secret))

  pub record KeysMade (answer : Answer) (public-after secret-after : Bytes) : Type 0 where
    pub answered : number answer ≡ keys_answer
    pub public_is : public-after ≡ settled keys_answer row (λ r. public_key r (family_for r) sk_seed pk_seed) public
    pub secret_is : secret-after
        ≡ settled keys_answer row (λ r. secret_key r (family_for r) sk_seed sk_prf pk_seed) secret
