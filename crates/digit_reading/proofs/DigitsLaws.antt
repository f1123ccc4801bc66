-- What digit reading promises, from what its tests and its work gave, on plain values.
-- Assumes nothing.
use mathlib.Core.Path.{◌≡◌, refl, sym, ap, ◌∙◌}
use mathlib.Core.List.{List}
use mathlib.Core.Option.{Option, some}
use Prim.Native.Nat.{ℕ}
use lib.ListN.{length}
use Rattle.std.specs.Prelude.{Ok, Err}
use Rattle.rules.specs.Places.{Bytes}
use Rattle.rules.specs.Chains.{chain_digits}
use Rattle.rules.specs.Sets.{Row}
use Rattle.answers.specs.Answers.{Answer, number}
use Rattle.answers.specs.declared.Refusal.{Refusal}
use Rattle.answers.proofs.LineLaws.{none_applies}
use Rattle.answers.proofs.AnswerLaws.{settled_made, refusal_keeps}
use Rattle.digit_reading.specs.Digits.{digits_lines, digits_answer, DigitsRead}

-- A promise under a row is the promise under the same row by another name.
module _ {row other : Option Row} (e : row ≡ other) where
  pub digits_by : {value : Bytes} {digits digits' : List ℕ} {answer : Answer}
      → DigitsRead other value digits answer digits' → DigitsRead row value digits answer digits'
  digits_by k = rw e k

module _ {row : Option Row} {value : Bytes} {digits : List ℕ} where
  pub digits_refused : (refusal : Refusal) → number (Err refusal) ≡ digits_answer row value digits
      → DigitsRead row value digits (Err refusal) digits
  digits_refused refusal e = record {
    answered = e;
    digits_are = refusal_keeps refusal row (λ r. chain_digits r.n value) digits e;
  }

  pub digits_done : (r : Row) {digits' : List ℕ} → row ≡ some r → 0 ≡ digits_answer (some r) value digits
      → digits' ≡ chain_digits (length value) value → DigitsRead row value digits (Ok tt) digits'
  digits_done r known done e =
      let (_, (long, _)) = none_applies (digits_lines (some r) (length value) (length digits)) refl done in
      digits_by known (record {
        answered = done;
        digits_are = e ∙ ap (λ (n : ℕ). chain_digits n value) (long r refl)
            ∙ sym (settled_made _ (some r) (λ r. chain_digits r.n value) digits r (sym done) refl);
      })
