-- `part` cuts out what lies at the place told, which is within the seal, and empty with a refusal.
-- Assumes nothing.
use mathlib.Core.Path.{sym, ap₂, ◌∙◌}
use native.Mathlib.Omega.{arith}
use lib.ListN.{take, drop}
use Rattle.lists.proofs.Lent.{lent}
use Rattle.part_reading.proofs.PartLaws.{part_cut, extent_inside}
use Rattle.part_reading.proofs.part.Goals as goal

pub overflow_add-end : goal.overflow_add-end
overflow_add-end c =
    let extent = c.part_extent-extent.ensures in
    let inside = extent_inside c.args.set c.args.seal.now c.args.number extent.start_value extent.length_value in
    record { fits = omega (arith, inside) }

pub slice_bounds-result-end : goal.slice_bounds-result-end
slice_bounds-result-end c =
    let extent = c.part_extent-extent.ensures in
    let inside = extent_inside c.args.set c.args.seal.now c.args.number extent.start_value extent.length_value in
    omega (arith, inside)

pub returns-clause-bytes : goal.returns-clause-bytes
returns-clause-bytes c =
    let extent = c.part_extent-extent.ensures in
    lent _ _ c.args.seal.now
    ∙ ap₂ (λ x y. take y (drop x c.args.seal.now)) extent.start_value extent.length_value
    ∙ sym (part_cut _ c.args.seal.now c.args.number)
