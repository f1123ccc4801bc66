-- `round` is the five steps, each by its function's contract.
-- Assumes nothing.
use Rattle.keccak.specs.Keccak.{round, ι}
use Rattle.permutation.proofs.round.Goals as goal

pub returns : goal.returns
unfolding round ι
returns c =
    rw (c.chi.ensures, c.pi-d.ensures, c.rho-b.ensures, c.theta-a.ensures)
