-- `call_value` is `call` on the front of 32 bytes.
-- Assumes nothing.
use mathlib.Core.List.{◌++◌}
use Rattle.shake.specs.Shake.{shake256}
use lib.ListN.{replicate}
use Rattle.std.proofs.lemmas.List.{length-take-le}
use Rattle.lists.proofs.Parts.{front_part}
use Rattle.addresses.specs.Addresses.{bytes_of}
use Rattle.calls.proofs.call_value.Goals as goal

pub returns : goal.returns
returns c =
    let a = c.args in
    front_part (shake256 (a.seed.now ++ (bytes_of a.adrs ++ a.input.now))) a.n _
    c.call.ensures c.call.auto.out (length-take-le a.n (replicate 32 0) c.requires)
