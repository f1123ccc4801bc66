-- `chain_in` takes the chain's steps one by one: what is left from where it is leads to where the whole leads.
-- Assumes nothing.
use mathlib.Core.Path.{sym, ◌∙◌}
use Prim.Native.Nat.{◌+◌}
use Rattle.rules.specs.Places.{chain_step}
use Rattle.calls.specs.Hashes.{ruled_hashes}
use Rattle.chains.proofs.Loops.{chain_turn, chain_end, chain_calls}
use Rattle.chains.proofs.chain_in.Goals as goal

pub loop-k-preserved : goal.loop-k-preserved
loop-k-preserved c =
    let l = c.loop-k in
    let a = c.args in
    chain_turn (ruled_hashes a.hashes.now) (chain_step a.spot.layer a.spot.tree a.spot.pair a.c)
    a.start a.steps l.k l.io c.loop-k-test.true c.address_at.ensures c.f_in.ensures l.invariant

pub returns : goal.returns
returns c =
    let l = c.loop-k in
    let a = c.args in
    let w = ruled_hashes a.hashes.now in
    let place = chain_step a.spot.layer a.spot.tree a.spot.pair a.c in record {
      io_after = sym (chain_end w place (a.start + l.k) a.steps l.k l.io c.loop-k-test.false) ∙ l.invariant;
      f_calls = chain_calls w place a.io.now a.start a.steps;
    }
