-- `rho` is ρ: each lane is the definition's, since the table of offsets is what the standard's walk gives.
-- Assumes nothing.
use mathlib.Core.Path.{◌≡◌, sym, ap₂, ◌∙◌}
use lib.ListN.{get_or}
use Rattle.std.proofs.Common.{rules}
use Rattle.keccak.specs.Constants.{walk, offsets}
use Rattle.keccak.specs.Keccak.{lane, rotated, ρ}
use Rattle.keccak.proofs.Each.{state_made}
use Rattle.keccak.proofs.Rounds.{lane_place}
use Rattle.keccak.proofs.rho.Goals as goal

pub returns : goal.returns
unfolding ρ offsets walk
returns c =
    let a = c.args.a.now in
    state_made _ _ (λ x y. rotated (lane offsets x y) (lane a x y))
    (λ i r q h k.
    let e : r ≡ rotated (get_or offsets i 0) (get_or a i 0) = search rules in
    (e ∙ ap₂ rotated (sym (lane_place offsets i h)) (sym (lane_place a i h)), search rules))
    _ c.from_fn.ensures.items
