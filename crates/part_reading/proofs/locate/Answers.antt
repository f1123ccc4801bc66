-- `locate` refuses where its set has no row or a line applies; else it tells where the part lies.
-- Assumes nothing.
use mathlib.Core.Path.{refl}
use Rattle.std.proofs.Common.{rules}
use Rattle.std.proofs.lemmas.Result.{err_from_is_err_and}
use Rattle.answers.proofs.LineLaws.{unknown_given, none_applies}
use Rattle.part_reading.proofs.PartLaws.{located_refused, located_done}
use Rattle.part_reading.proofs.locate.Goals as goal

pub returns-in_err-known : goal.returns-in_err-known
returns-in_err-known c =
    let result = err_from_is_err_and c.from_residual.result c.from_residual.ensures.1 in
    rw (result.1, result.2) (located_refused _ (unknown_given _ c.in_err-known.ensures.unknown))

pub returns-in_err-kind : goal.returns-in_err-kind
returns-in_err-kind c =
    let refused = located_refused _ c.in_err-kind.ensures.answered in
    search (rules, c.in_ok-known.ensures.known, refused)

pub extent_of-requires : goal.extent_of-requires
extent_of-requires c =
    let (_, (_, (there, _))) = none_applies _ refl c.in_ok-kind.ensures.answered in
    rw c.in_ok-kind.ensures.kind (there _ refl)

pub returns : goal.returns
returns c =
    let extent = rw c.in_ok-kind.ensures.kind at c.extent_of.ensures in
    located_done _ c.in_ok-known.ensures.known c.in_ok-kind.ensures.answered extent.start_value extent.length_value
