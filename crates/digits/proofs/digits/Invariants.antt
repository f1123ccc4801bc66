-- `digits::digits` meets its contract: the digits written so far are the first of base_2b, and the next begins where
-- the loop stands.
-- Assumes nothing.
use mathlib.Core.Path.{◌≡◌}
use Prim.Native.Nat.{◌+◌, ◌*◌, ◌<◌}
use lib.ListN.{length, take}
use Rattle.rules.specs.Digits.{base2b}
use Rattle.digits.proofs.digits.Given as goal

abbrev pub invariant-loop-d : goal.invariant-loop-d
invariant-loop-d l =
    (l.skip < 8) × (l.width * l.d-index ≡ 8 * l.at + l.skip)
    × (take l.d-index l.out ≡ take l.d-index (base2b l.x l.width (length l.initial.out)))
