-- What key making promises, from what its tests and its work gave, on plain values.
-- Assumes nothing.
use mathlib.Core.Path.{◌≡◌, refl, sym, ◌∙◌}
use mathlib.Core.Option.{Option, some, none}
use Rattle.std.specs.Prelude.{Ok, Err}
use Rattle.rules.specs.Places.{Bytes}
use Rattle.rules.specs.Sets.{Row}
use Rattle.rules.specs.Keys.{public_key, secret_key}
use Rattle.calls.specs.Hashes.{family_for}
use Rattle.answers.specs.Answers.{Answer, number}
use Rattle.answers.specs.declared.Refusal.{Refusal}
use Rattle.answers.specs.declared.Refusal.TheVariants.{UnknownSet}
use Rattle.answers.proofs.LineLaws.{unknown_given}
use Rattle.answers.proofs.AnswerLaws.{settled_made, refusal_keeps}
use Rattle.making.specs.Keys.{keys_answer, KeysMade}

-- A promise under a row is the promise under the same row by another name.
module _ {row other : Option Row} (e : row ≡ other) where
  pub keys_by : {s p q public secret public' secret' : Bytes} {answer : Answer}
      → KeysMade other s p q public secret answer public' secret' → KeysMade row s p q public secret answer public'
      secret'
  keys_by k = rw e k

module _ {row : Option Row} {s p q public secret : Bytes} where
  pub keys_refused : (refusal : Refusal) → number (Err refusal) ≡ keys_answer row s p q public secret
      → KeysMade row s p q public secret (Err refusal) public secret
  keys_refused refusal e = record {
    answered = e;
    public_is = refusal_keeps refusal row (λ r. public_key r (family_for r) s q) public e;
    secret_is = refusal_keeps refusal row (λ r. secret_key r (family_for r) s p q) secret e;
  }

  module _ (r : Row) (known : row ≡ some r) (done : 0 ≡ keys_answer (some r) s p q public secret) where
    pub keys_done : {public' secret' : Bytes} → public' ≡ public_key r (family_for r) s q
        → secret' ≡ secret_key r (family_for r) s p q → KeysMade row s p q public secret (Ok tt) public' secret'
    keys_done e f = keys_by known (record {
      answered = done;
      public_is = e ∙ sym (settled_made _ (some r) (λ r. public_key r (family_for r) s q) public r (sym done) refl);
      secret_is = f ∙ sym (settled_made _ (some r) (λ r. secret_key r (family_for r) s p q) secret r (sym done) refl);
    })

-- Without a row the set is refused, and both buffers stay.
pub keys_unknown : (s p q public secret : Bytes) → KeysMade none s p q public secret (Err UnknownSet) public secret
keys_unknown s p q public secret = keys_refused UnknownSet (unknown_given _ (refl, refl))
