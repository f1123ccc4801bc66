-- `effects` is what θ adds to each column, two parities: by the law on plain numbers.
-- Assumes nothing.
use Rattle.keccak.proofs.Rounds.{effects_are}
use Rattle.keccak.proofs.effects.Goals as goal

pub returns : goal.returns
returns c =
    effects_are _ _ _ _ _ _ _ _ _ _ _ c.parity-c0.ensures
    c.parity-c1.ensures
    c.parity-c2.ensures
    c.parity-c3.ensures
    c.parity-c4.ensures
    c.rotate-5.ensures
    c.rotate.ensures
    c.rotate-2.ensures
    c.rotate-3.ensures
    c.rotate-4.ensures
