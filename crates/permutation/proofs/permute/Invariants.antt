-- `permute` is all the rounds: after some of the constants the state is that of as many rounds, and the table of
-- constants is what the standard's register gives.
-- Assumes nothing.
use mathlib.Core.Path.{◌≡◌}
use Rattle.keccak.specs.Keccak.{rounds}
use Rattle.permutation.proofs.permute.Given as goal

abbrev pub invariant-loop-c : goal.invariant-loop-c
invariant-loop-c l = l.s ≡ rounds l.c-index l.initial.s
