-- `absorb` feeds its bytes: after each turn what is left, fed to the sponge as it is, gives what all of them give.
-- Assumes nothing.
use mathlib.Core.Path.{◌≡◌, sym, ap, ◌∙◌}
use native.Mathlib.Omega.{arith}
use lib.ListN.{length}
use Rattle.std.proofs.Common.{rules}
use Rattle.lists.proofs.Parts.{nil_of_length}
use Rattle.sponge.specs.Stream.{Sponge, sponge, feed}
use Rattle.sponge.proofs.Stream.{feed_turn}
use Rattle.absorbing.proofs.Sponge.absorb.Goals as goal

pub loop-rest-preserved : goal.loop-rest-preserved
loop-rest-preserved c =
    let l = c.loop-rest in
    let r = l.self.rate in
    let turned = c.turn.ensures in
    let fed = c.absorb_next-rest.ensures in
    let same = fed.rate_after ∙ turned.rate_after in (
      same ∙ l.invariant.0,
      rw same (rw turned.rate_after at fed.state_after
          ∙ ap (λ (k : Sponge). feed r k l.rest.now) turned.state_after
          ∙ feed_turn r (omega arith) (sponge l.self.lanes l.self.at) l.rest.now (omega arith)
          ∙ l.invariant.1),
    )

pub returns-clause-state_after : goal.returns-clause-state_after
unfolding feed
returns-clause-state_after c =
    let l = c.loop-rest in
    let e : length l.rest.now ≡ 0 = search rules in
    ap (feed l.self.rate (sponge l.self.lanes l.self.at)) (sym (nil_of_length l.rest.now e)) ∙ l.invariant.1
