-- What sealing promises, from what its tests and its work gave, on plain values.
-- Assumes nothing.
use mathlib.Core.Path.{◌≡◌, refl, sym, ap, ◌∙◌}
use mathlib.Core.List.{[], ◌∷◌, ◌++◌}
use mathlib.Core.Option.{Option, some}
use Rattle.std.specs.Prelude.{Ok, Err}
use Rattle.rules.specs.Places.{Bytes}
use Rattle.rules.specs.Sets.{Row}
use Rattle.rules.specs.Seal.{plain, frame, seal_of}
use Rattle.rules.proofs.SealLaws.{framed}
use Rattle.calls.specs.Hashes.{family_for}
use Rattle.answers.specs.Answers.{Answer, number}
use Rattle.answers.specs.declared.Refusal.{Refusal}
use Rattle.answers.proofs.AnswerLaws.{settled_made, refusal_keeps}
use Rattle.sealing.specs.Seals.{seal_answer, Sealed}

abbrev made : (secret message random : Bytes) → Row → Bytes
made secret message random r = (seal_of r (family_for r) secret random (frame (plain [] message))).result

-- A promise under a row is the promise under the same row by another name.
module _ {row other : Option Row} (e : row ≡ other) where
  pub seal_by : {secret message random out out' : Bytes} {answer : Answer}
      → Sealed other secret message random out answer out' → Sealed row secret message random out answer out'
  seal_by k = rw e k

module _ {row : Option Row} {secret message random out : Bytes} where
  pub seal_refused : (refusal : Refusal) → number (Err refusal) ≡ seal_answer row secret message random out
      → Sealed row secret message random out (Err refusal) out
  seal_refused refusal e = record {
    answered = e;
    out_is = refusal_keeps refusal row (made secret message random) out e;
  }

  pub seal_done : (r : Row) {out' : Bytes} → row ≡ some r → 0 ≡ seal_answer (some r) secret message random out
      → out' ≡ (seal_of r (family_for r) secret random ((0 ∷ 0 ∷ []) ++ ([] ++ message))).result
      → Sealed row secret message random out (Ok tt) out'
  seal_done r known done e = seal_by known (record {
    answered = done;
    out_is = e ∙ ap (λ M. (seal_of r (family_for r) secret random M).result) (framed [] message)
        ∙ sym (settled_made _ (some r) (made secret message random) out r (sym done) refl);
  })
