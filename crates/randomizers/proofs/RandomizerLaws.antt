-- The mixed-in bytes by whether there is a randomizer input, and the randomizer of a framed message.
-- Assumes nothing.
use mathlib.Core.Path.{◌≡◌, refl, sym, ap, ◌∙◌}
use mathlib.Core.List.{[], ◌∷◌}
use Prim.Native.Nat.{ℕ, zero, suc}
use lib.ListN.{length}
use Rattle.lists.proofs.Parts.{nil_of_length}
use Rattle.rules.specs.Places.{Bytes}
use Rattle.randomizers.specs.Mixed.{chosen}
use Rattle.rules.specs.Calls.{Family}
use Rattle.rules.specs.Sets.{Row}
use Rattle.rules.specs.Seal.{mixed_in, randomizer_of}

-- The mixed-in bytes, where there is no randomizer input and where there is one.
pub mixed_none : (random pk : Bytes) → length random ≡ 0 → pk ≡ mixed_in random pk
unfolding mixed_in
mixed_none random pk e = ap (λ (y : Bytes). mixed_in y pk) (sym (nil_of_length random e))

pub mixed_some : (random pk : Bytes) → (length random ≡ 0 → ⊥) → random ≡ mixed_in random pk
unfolding mixed_in
mixed_some [] pk h = absurd (h refl)
mixed_some (x ∷ xs) pk h = refl

-- They are the one or the other of two things lent.
pub chosen_none : {A : Type 0} (bytes : ℕ) (random seed : A) → bytes ≡ 0 → seed ≡ chosen bytes random seed
chosen_none bytes random seed e = ap (λ (n : ℕ). chosen n random seed) (sym e)

pub chosen_some : {A : Type 0} (bytes : ℕ) (random seed : A) → (bytes ≡ 0 → ⊥) → random ≡ chosen bytes random seed
chosen_some zero random seed h = absurd (h refl)
chosen_some (suc _) random seed h = refl

-- What `mixed_in` returns, for the tactics.
pub ruleset mixed = (mixed_none, mixed_some, chosen_none, chosen_some)

-- The randomizer of a framed message M.
pub randomizer_made : (r : Row) (f : Family r.n r.m) (prf mixed M : Bytes) {R x : Bytes} → x ≡ mixed
    → R ≡ f.prf_msg prf x M → R ≡ (randomizer_of r f prf mixed M).result
unfolding randomizer_of
randomizer_made r f prf mixed M e g = g ∙ ap (λ x. f.prf_msg prf x M) e
