-- `chi` is χ, a row a turn: each of the five stores is the next lane of the definition.
-- Assumes nothing.
use Prim.Native.Nat.{◌*◌}
use Rattle.keccak.proofs.Each.{Filled}
use Rattle.keccak.proofs.Rounds.{chosen}
use Rattle.permutation.proofs.chi.Given as goal

abbrev pub invariant-loop-y : goal.invariant-loop-y
invariant-loop-y l = Filled (chosen l.a) l.b (5 * l.y)
