-- `own_chain` makes the secret value and takes the chain's steps from it.
-- Assumes nothing.
use Rattle.calls.specs.Hashes.{ruled_hashes}
use Rattle.chains.proofs.Loops.{own_made}
use Rattle.chains.proofs.own_chain.Goals as goal

pub returns : goal.returns
returns c =
    let a = c.args in
    own_made (ruled_hashes a.holder.now.hashes) a.spot.layer a.spot.tree a.spot.pair a.holder.now.secret.now a.c
    a.steps c.address_at.ensures c.secret_in.ensures
    c.chain_in.ensures.io_after
