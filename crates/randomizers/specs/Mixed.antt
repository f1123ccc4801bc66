-- Which of two lent strings the mixed-in bytes are.
-- Assumes nothing.
use Rattle.std.specs.Prelude.{ℕ, zero, suc}

-- The public seed where the randomizer input has no bytes, and else the input.
abbrev pub chosen : {A : Type 0} → (bytes : ℕ) (random seed : A) → A
chosen zero random seed = seed
chosen (suc _) random seed = random
