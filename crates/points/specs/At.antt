-- What a place in the code stands for in the rules.
-- Assumes nothing.
use Rattle.std.specs.Prelude.{List, ℕ}
use Rattle.rules.specs.Digest as rules
use Rattle.climbs.specs.declared.groves.Pointed.{Pointed}

-- A tree and a leaf, with the forest's digits.
abbrev pub at : Pointed → (indices : List ℕ) → rules.Pointed
at p indices = record { indices = indices; tree = p.tree; leaf = p.leaf }
