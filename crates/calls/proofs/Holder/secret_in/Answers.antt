-- `secret_in` is a secret value, by `call`.
-- Assumes nothing.
use mathlib.Core.Path.{ap, ◌∙◌}
use mathlib.Core.List.{◌++◌}
use Rattle.shake.specs.Shake.{shake256}
use Rattle.addresses.specs.Addresses.{bytes_of}
use Rattle.calls.specs.Hashes.{family}
use Rattle.calls.proofs.Holder.secret_in.Goals as goal

pub returns : goal.returns
unfolding family
returns c =
    let a = c.args in
    c.call.ensures
    ∙ ap (λ n. shake256 (a.self.now.hashes.seed.now ++ (bytes_of a.adrs ++ a.self.now.secret.now)) n) c.requires
