-- What checking promises, from what its lines and its walk gave, on plain values.
-- Assumes nothing.
use mathlib.Core.Path.{◌≡◌, refl, sym, ap, ap₂, ◌∙◌}
use mathlib.Core.Logic.{◌≢◌, ◌⊎◌, inl, inr}
use mathlib.Core.Bool.{Bool, true, false, cond, ◌||◌}
use mathlib.Core.List.{[], ◌∷◌, ◌++◌}
use mathlib.Core.Option.{Option, some}
use Prim.Native.Nat.{ℕ, ◌*◌}
use native.Mathlib.Nat.{suc-ne-zero}
use lib.Dec.{eqb}
use borrow.Author.Tests.{ne_eqb}
use Rattle.std.specs.Prelude.{Ok, Err, bytes_eq}
use lib.ListN.{length}
use Rattle.rules.specs.Places.{Bytes}
use Rattle.rules.specs.Calls.{F, of, Run}
use Rattle.rules.specs.Sets.{Row}
use Rattle.rules.specs.Keys.{piece}
use Rattle.rules.specs.Check.{checked_root}
use Rattle.rules.proofs.SealLaws.{framed}
use Rattle.counts.specs.Counts.{count}
use Rattle.calls.specs.Hashes.{family_for}
use Rattle.rows.specs.Ready.{Ready}
use Rattle.answers.specs.Answers.{Answer, number}
use Rattle.answers.specs.Lines.{first}
use Rattle.checking.specs.Checks.{length_lines, root_line, recomputed, Checked}
use Rattle.answers.specs.declared.Refusal.{Refusal}
use Rattle.checking.specs.declared.Verdict.{Verdict}
use Rattle.answers.specs.declared.Refusal.TheVariants.{RootDiffers}
use Rattle.answers.proofs.LineLaws.{not_given, given_early, given_late, none_applies}
use Rattle.answers.proofs.AnswerLaws.{refused}

-- ---- The F calls by the answer

abbrev calls_at : (answer n : ℕ) → ℕ
calls_at x n = cond (eqb x 0 || eqb x 5) n 0

-- With answers 0 and 5 they are those of the walk, and with every other one none.
pub walked_calls : (x n : ℕ) → (x ≡ 0) ⊎ (x ≡ 5) → calls_at x n ≡ n
walked_calls x n (inl z) = ap (λ (y : ℕ). calls_at y n) z
walked_calls x n (inr z) = ap (λ (y : ℕ). calls_at y n) z

pub no_calls : (x n : ℕ) → x ≢ 0 → x ≢ 5 → 0 ≡ calls_at x n
no_calls x n h g =
    ap₂ (λ (a b : Bool). cond (a || b) n 0) (sym (ne_eqb x 0 h)) (sym (ne_eqb x 5 g))

-- By the root, which decides last.
by_root : (s : Bool) (n : ℕ) → n ≡ calls_at (cond s 0 5) n
by_root true n = refl
by_root false n = refl

root_number : (s : Bool) → number (cond s (Ok tt) (Err RootDiffers)) ≡ cond s 0 5
root_number true = refl
root_number false = refl

-- ---- What checking promises

-- A promise under a row is the promise under the same row by another name.
module _ {row other : Option Row} (e : row ≡ other) where
  pub check_by : {public message seal : Bytes} {v : Verdict} → Checked other public message seal v
      → Checked row public message seal v
  check_by k = rw e k

module _ {row : Option Row} {public message seal : Bytes} where
  pub check_refused : (refusal : Refusal)
      → number (Err refusal) ≡ first (length_lines row (length public) (length message) (length seal))
      → Checked row public message seal (record { answer = Err refusal; calls = 0 })
  check_refused refusal e =
      let early = length_lines row (length public) (length message) (length seal) in
      let applies = λ (z : first early ≡ 0). refused refusal (e ∙ z) in
      let given = given_early early (root_line row public message seal ∷ []) applies in
      record {
        answered = e ∙ sym given;
        counted = rw given (no_calls (first early) _ applies (not_given 5 early refl (suc-ne-zero 4)));
      }

-- Where no line before the walk applies, the key is two pieces.
pub key_long : (r : Row) (public message seal : ℕ) → Ready r → 0 ≡ first (length_lines (some r) public message seal)
    → public ≡ 2 * r.n
key_long r public message seal ready z =
    let (_, (long, _)) = none_applies _ refl z in
    long r refl ∙ ready.legal.public_long

-- The walk over the message's three pieces: what precedes it, an empty context and the message.
abbrev walk : (r : Row) (public message seal : Bytes) → Run Bytes
walk r public message seal = checked_root r (family_for r) public ((0 ∷ 0 ∷ []) ++ ([] ++ message)) seal

-- Where no line before the walk applies, the root decides.
module _ (r : Row) {public message seal root own : Bytes} {answer : Answer} {calls : ℕ} where
  root_decides : 0 ≡ first (length_lines (some r) (length public) (length message) (length seal))
      → answer ≡ cond (bytes_eq root own) (Ok tt) (Err RootDiffers)
      → root ≡ (walk r public message seal).result → own ≡ piece r.n 1 public
      → calls ≡ count (of F) (walk r public message seal).calls
      → Checked (some r) public message seal (record { answer = answer; calls = calls })
  unfolding first
  root_decides z e g h f =
      let early = length_lines (some r) (length public) (length message) (length seal) in
      let given = given_late early (root_line (some r) public message seal ∷ []) refl (sym z) in
      let run = λ (M : Bytes). checked_root r (family_for r) public M seal in
      let whole = recomputed (some r) public message seal r in
      record {
        answered = ap number e ∙ root_number (bytes_eq root own)
            ∙ ap₂ (λ (x y : Bytes). cond (bytes_eq x y) 0 5)
            (g ∙ ap (λ M. (run M).result) (framed [] message)) h ∙ sym given;
        counted = f ∙ ap (λ M. count (of F) (run M).calls) (framed [] message)
            ∙ by_root (bytes_eq whole.result (piece r.n 1 public)) (count (of F) whole.calls)
            ∙ ap (λ (x : ℕ). calls_at x (count (of F) whole.calls)) (sym given);
      }

  pub check_walked : {row : Option Row} → row ≡ some r
      → 0 ≡ first (length_lines (some r) (length public) (length message) (length seal))
      → answer ≡ cond (bytes_eq root own) (Ok tt) (Err RootDiffers)
      → root ≡ (walk r public message seal).result → own ≡ piece r.n 1 public
      → calls ≡ count (of F) (walk r public message seal).calls
      → Checked row public message seal (record { answer = answer; calls = calls })
  check_walked known z e g h f = check_by known (root_decides z e g h f)
