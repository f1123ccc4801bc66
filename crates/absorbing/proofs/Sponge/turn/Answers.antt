-- `turn` is the stream's turn: it permutes past the rate and does nothing below it.
-- Assumes nothing.
use mathlib.Core.Path.{sym}
use native.Mathlib.Omega.{arith}
use Rattle.sponge.specs.Stream.{sponge}
use Rattle.sponge.proofs.Stream.{turn_yes, turn_no}
use Rattle.absorbing.proofs.Sponge.turn.Goals as goal

pub returns-then-self-clause-state_after : goal.returns-then-self-clause-state_after
returns-then-self-clause-state_after c =
    let s = c.args.self.now in
    rw c.permute.ensures (sym (turn_yes s.rate (sponge s.lanes s.at) (omega arith)))

pub returns-else-self-clause-state_after : goal.returns-else-self-clause-state_after
returns-else-self-clause-state_after c =
    let s = c.args.self.now in
    sym (turn_no s.rate (sponge s.lanes s.at) (omega arith))
