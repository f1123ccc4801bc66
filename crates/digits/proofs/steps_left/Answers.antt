-- `digits::steps_left` meets its contract: it sums what the rules sum, by the chain's own laws.
-- Assumes nothing.
use mathlib.Core.Path.{sym, ◌∙◌}
use native.Mathlib.Omega.{arith}
use borrow.Author.Rules.{rules}
use Rattle.std.proofs.Common.{◌-◌, tests}
use Rattle.std.proofs.lemmas.Iterator.{YieldsList-from_slice, YieldsList-from_map}
use Rattle.std.proofs.lemmas.Iterator.Consumers.{fits_by_from_yields_list, sum_by_from_yields_List}
use Rattle.digits.proofs.Laws.{steps_sum, steps_le}
use Rattle.digits.proofs.steps_left.Goals as goal

pub sum-requires-clause-fits : goal.sum-requires-clause-fits
sum-requires-clause-fits c =
    let ds = c.args.ds.now in
    fits_by_from_yields_list (λ d. 15 - d) ds c.map.result _
    (YieldsList-from_map _ (λ d. 15 - d) (YieldsList-from_slice ds cc) c.map.ensures.closure
    (λ x r q k. search (rules, tests)))
    (omega (arith, steps_le ds))

pub returns : goal.returns
returns c =
    let ds = c.args.ds.now in
    sum_by_from_yields_List (λ d. 15 - d) ds c.map.result _ c.sum.ensures.ran
    (YieldsList-from_map _ (λ d. 15 - d) (YieldsList-from_slice ds cc) c.map.ensures.closure
    (λ x r q k. search (rules, tests)))
    ∙ sym (steps_sum ds)
