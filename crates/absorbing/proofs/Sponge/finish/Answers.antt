-- `finish` ends the message: the suffix and the padding's two ones are two bytes added to the last block.
-- Assumes nothing.
use Rattle.sponge.specs.Stream.{close, finish}
use Rattle.absorbing.proofs.Sponge.finish.Goals as goal

pub returns-clause-state_after : goal.returns-clause-state_after
unfolding finish close
returns-clause-state_after c =
    let turned = c.turn.ensures in
    rw (c.mix-2.ensures, c.mix.ensures, turned.rate_after, ← turned.state_after)
