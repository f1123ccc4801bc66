-- What a buffer holds by the answer, and that an answer is known by its number: by cases on refusal and number.
-- Assumes nothing.
use mathlib.Core.Path.{◌≡◌, refl, sym, ap, ap₂, ◌∙◌}
use mathlib.Core.Logic.{◌≢◌}
use mathlib.Core.Option.{Option, some}
use Prim.Native.Nat.{ℕ, zero, suc}
use native.Mathlib.Nat.{suc-ne-zero}
use Rattle.rules.specs.Sets.{Row}
use Rattle.std.specs.Prelude.{Ok, Err}
use Rattle.answers.specs.Answers.{Answer, number, settled}
use Rattle.answers.specs.declared.Refusal.{Refusal}
use Rattle.answers.specs.declared.Refusal.TheVariants.{UnknownSet, InputLength, MessageLength, SealLength}
use Rattle.answers.specs.declared.Refusal.TheVariants.{RootDiffers, UnknownPart}

-- The number of a refusal is not 0.
pub refused : (refusal : Refusal) → number (Err refusal) ≢ 0
refused UnknownSet = suc-ne-zero _
refused InputLength = suc-ne-zero _
refused MessageLength = suc-ne-zero _
refused SealLength = suc-ne-zero _
refused RootDiffers = suc-ne-zero _
refused UnknownPart = suc-ne-zero _

-- A buffer holds what is made where the answer is 0, and else what it held.
pub settled_made : {A : Type 0} (n : ℕ) (row : Option Row) (made : Row → A) (was : A) (r : Row)
    → n ≡ 0 → row ≡ some r → settled n row made was ≡ made r
unfolding settled
settled_made n row made was r z e = ap₂ (λ (x : ℕ) (y : Option Row). settled x y made was) z e

pub settled_kept : {A : Type 0} (n : ℕ) (row : Option Row) (made : Row → A) (was : A)
    → n ≢ 0 → settled n row made was ≡ was
unfolding settled
settled_kept zero row made was refused = absurd (refused refl)
settled_kept (suc n) row made was refused = refl

-- With a refusal what it held.
pub refusal_keeps : {A : Type 0} (refusal : Refusal) {n : ℕ} (row : Option Row) (made : Row → A) (was : A)
    → number (Err refusal) ≡ n → was ≡ settled n row made was
refusal_keeps refusal row made was e = sym (settled_kept _ row made was (λ z. refused refusal (e ∙ z)))

-- The answer of a number.
answer_of : ℕ → Answer
answer_of zero = Ok tt
answer_of (suc zero) = Err UnknownSet
answer_of (suc (suc zero)) = Err InputLength
answer_of (suc (suc (suc zero))) = Err MessageLength
answer_of (suc (suc (suc (suc zero)))) = Err SealLength
answer_of (suc (suc (suc (suc (suc zero))))) = Err RootDiffers
answer_of (suc (suc (suc (suc (suc (suc k)))))) = Err UnknownPart

back : (a : Answer) → answer_of (number a) ≡ a
unfolding answer_of
back (Ok x) = refl
back (Err UnknownSet) = refl
back (Err InputLength) = refl
back (Err MessageLength) = refl
back (Err SealLength) = refl
back (Err RootDiffers) = refl
back (Err UnknownPart) = refl

-- Answers of one number are one answer.
pub number_injective : (a b : Answer) → number a ≡ number b → a ≡ b
number_injective a b e = sym (back a) ∙ ap answer_of e ∙ back b
