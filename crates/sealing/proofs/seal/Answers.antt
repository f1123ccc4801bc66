-- `seal` refuses where its set has no row or a line applies, and then writes nothing; else it seals.
-- Assumes nothing.
use mathlib.Core.Path.{refl}
use Rattle.std.proofs.Common.{rules}
use Rattle.std.proofs.lemmas.Result.{err_from_is_err_and}
use Rattle.answers.proofs.LineLaws.{unknown_given, none_applies}
use Rattle.sealing.proofs.SealingLaws.{seal_done, seal_refused}
use Rattle.sealing.proofs.seal.Goals as goal

pub returns-in_err-known : goal.returns-in_err-known
returns-in_err-known c =
    let result = err_from_is_err_and c.from_residual.result c.from_residual.ensures.1 in
    rw (result.1, result.2) (seal_refused _ (unknown_given _ c.in_err-known.ensures.unknown))

pub returns-in_err-seal_answer : goal.returns-in_err-seal_answer
returns-in_err-seal_answer c =
    let refused = seal_refused _ c.in_err-seal_answer.ensures in
    search (rules, c.in_ok-known.ensures.known, refused)

pub seal_in-requires : goal.seal_in-requires
seal_in-requires c =
    let (_, (secret, (_, (_, (out, _))))) = none_applies _ refl c.in_ok-seal_answer.ensures in
    (secret _ refl, out _ refl)

pub returns : goal.returns
returns c =
    seal_done _ c.in_ok-known.ensures.known c.in_ok-seal_answer.ensures c.seal_in.ensures
