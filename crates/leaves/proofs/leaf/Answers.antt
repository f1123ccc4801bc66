-- `leaf` is the leaf of the rules: all chains shown at position 15 are their ends, and T compresses them.
-- Assumes nothing.
use mathlib.Core.Path.{◌≡◌, sym, ap, ◌∙◌}
use Prim.Native.Nat.{ℕ, ◌*◌}
use native.Mathlib.Omega.{arith}
use lib.ListN.{length, replicate, take, length-replicate}
use lib.Seq.{length-take-le}
use Rattle.std.proofs.lemmas.List.{take-replicate}
use Rattle.lists.proofs.Below.{below_replicate}
use Rattle.rules.specs.Places.{address, chain_ends}
use Rattle.rules.specs.Calls.{T}
use Rattle.rules.specs.Chains.{ends, shown}
use Rattle.rules.proofs.ChainLaws.{leaf_is}
use Rattle.calls.specs.Hashes.{ruled_hashes}
use Rattle.leaves.proofs.EndLaws.{shown_ends}
use Rattle.rows.proofs.SizeLaws.{size_fits}
use Rattle.leaves.proofs.leaf.Goals as goal

pub shown_in-requires : goal.shown_in-requires
shown_in-requires c =
    let n = c.args.holder.now.hashes.kit.n in
    let len = c.chain_count-len.result in
    let size = c.chain_bytes-size in
    let many = c.chain_count-len.ensures in
    let same : take {A = ℕ} len (replicate 67 15) ≡ replicate len 15 =
    take-replicate len 67 15 (omega (arith, many, c.requires)) in
    let long : length {A = ℕ} (take len (replicate 67 15)) ≡ len = rw same (length-replicate len 15) in (
      length-take-le size.result (replicate 2144 0) (omega (arith, size.ensures, size_fits n c.requires))
          ∙ size.ensures ∙ ap (λ x. x * n) (sym (long ∙ many)),
      omega (arith, long, many, c.requires),
      rw same (below_replicate 16 len 15 (omega arith) (omega arith)),
    )

pub returns : goal.returns
returns c =
    let a = c.args in
    let w = ruled_hashes a.holder.now.hashes in
    let place = address (chain_ends a.spot.layer a.spot.tree a.spot.pair) in
    let len = c.chain_count-len.result in
    let many = c.chain_count-len.ensures in
    c.compress.ensures
    ∙ ap (w.hash T place) c.shown_in.ensures
    ∙ ap (λ ds. w.hash T place (shown w a.spot.layer a.spot.tree a.spot.pair a.holder.now.secret.now 0 ds).result)
    (take-replicate len 67 15 (omega (arith, many, c.requires)))
    ∙ ap (w.hash T place) (shown_ends w a.spot.layer a.spot.tree a.spot.pair a.holder.now.secret.now 0 len)
    ∙ ap (λ k. w.hash T place (ends w a.spot.layer a.spot.tree a.spot.pair a.holder.now.secret.now 0 k).result) many
    ∙ sym (leaf_is w a.spot.layer a.spot.tree a.spot.pair a.holder.now.secret.now)
