-- A round is accepted by demand 2, from nothing but the three promises.
-- Assumes nothing.
use Rattle.demands.proofs.Demands.{own_seals_accepted}
use Rattle.round.proofs.make_seal_check.Goals as goal

pub returns : goal.returns
returns c =
    let a = c.args in
    record {
      keys = c.make_keys-made.ensures;
      seal = c.seal-sealed.ensures;
      check = c.check-verdict.ensures;
      accepted = λ y z. own_seals_accepted a.set _ _ _ _ _ _ _ _ c.make_keys-made.ensures y _ _ _ _ _
          c.seal-sealed.ensures z _ c.check-verdict.ensures;
    }
