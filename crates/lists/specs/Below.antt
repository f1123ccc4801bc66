-- Lists of small numbers, as bytes and digits are.
-- Assumes nothing.
use Rattle.std.specs.Prelude.{List, ℕ, ◌<◌, get_or}

-- Every number of a list is below c. Beyond its end a list reads as zeros.
abbrev pub Below : (c : ℕ) → List ℕ → Type 0
Below c l = (i : ℕ) → get_or l i 0 < c
