-- What part reading promises, from what its tests gave, on plain values.
-- Assumes nothing.
use mathlib.Core.Path.{◌≡◌, refl, sym, ◌∙◌}
use mathlib.Core.List.{[]}
use mathlib.Core.Option.{Option, some, none}
use Prim.Native.Nat.{ℕ, zero, suc, ◌+◌, ◌≤◌}
use native.Mathlib.Omega.{arith}
use Rattle.std.specs.Prelude.{Ok, Err}
use lib.ListN.{length, take, drop}
use Rattle.rules.specs.Places.{Bytes}
use Rattle.rules.specs.Sets.{Row, Legal, row_of}
use Rattle.rules.proofs.SealLaws.{part_fits}
use Rattle.rules.proofs.SetLaws.{row_of_legal}
use Rattle.rules.specs.Seal.{part, part_start, part_length}
use Rattle.answers.specs.Answers.{number, settled}
use Rattle.answers.specs.declared.Refusal.{Refusal}
use Rattle.part_reading.specs.Parts.{part_lines, part_answer, part_given, start_given, length_given, Located}
use Rattle.part_reading.specs.declared.Extent.{Extent}
use Rattle.answers.proofs.LineLaws.{none_applies}
use Rattle.answers.proofs.AnswerLaws.{settled_made, refusal_keeps}

-- ---- What is promised of the place of a part

module _ {row : Option Row} {seal : Bytes} {k : ℕ} where
  pub located_refused : (refusal : Refusal) → number (Err refusal) ≡ part_answer row seal k
      → Located row seal k (Err refusal)
  located_refused refusal e = record {
    answered = e;
    start_is = refusal_keeps refusal row (λ r. part_start r k) 0 e;
    length_is = refusal_keeps refusal row (λ r. part_length r k) 0 e;
  }

  pub located_done : (r : Row) {extent : Extent} → row ≡ some r → 0 ≡ part_answer (some r) seal k
      → extent.start ≡ part_start r k → extent.length ≡ part_length r k → Located row seal k (Ok extent)
  located_done r known done e f =
      let zero = rw (← known) at done in
      record {
        answered = zero;
        start_is = e ∙ sym (settled_made _ row (λ r. part_start r k) 0 r (sym zero) known);
        length_is = f ∙ sym (settled_made _ row (λ r. part_length r k) 0 r (sym zero) known);
      }

-- ---- A part lies where it is told

-- The bytes from the start told, as many as the length told, are the part.
pub part_cut : (row : Option Row) (seal : Bytes) (k : ℕ)
    → part_given row seal k ≡ take (length_given row seal k) (drop (start_given row seal k) seal)
unfolding settled part
part_cut row seal k = by_answer (part_answer row seal k) row
  where
    by_answer : (n : ℕ) (row : Option Row) → settled n row (λ r. part r k seal) []
        ≡ take (settled n row (λ r. part_length r k) 0) (drop (settled n row (λ r. part_start r k) 0) seal)
    by_answer zero none = refl
    by_answer zero (some r) = refl
    by_answer (suc n) row = refl

-- They lie within the seal.
pub part_inside : (row : Option Row) (seal : Bytes) (k : ℕ) → ((r : Row) → row ≡ some r → Legal r)
    → start_given row seal k + length_given row seal k ≤ length seal
unfolding settled
part_inside row seal k legal = by_answer (part_answer row seal k) refl row refl
  where
    inside : (r : Row) → row ≡ some r → part_answer row seal k ≡ 0 → part_start r k + part_length r k ≤ length seal
    inside r e z =
        let (_, (long, (there, _))) = none_applies (part_lines row (length seal) k) refl (sym z) in
        omega (arith, long r e, part_fits r (legal r e) k (omega (arith, there r e)))

    by_answer : (n : ℕ) → part_answer row seal k ≡ n → (o : Option Row) → row ≡ o
        → settled n o (λ r. part_start r k) 0 + settled n o (λ r. part_length r k) 0 ≤ length seal
    by_answer zero z none e = omega arith
    by_answer zero z (some r) e = inside r e z
    by_answer (suc n) z o e = omega arith

-- Whatever was told for a set.
pub extent_inside : (set : ℕ) (seal : Bytes) (k : ℕ) {start long : ℕ} → start ≡ start_given (row_of set) seal k
    → long ≡ length_given (row_of set) seal k → start + long ≤ length seal
extent_inside set seal k e f = rw (e, f) (part_inside (row_of set) seal k (λ r e. (row_of_legal set r e).1))
