-- `make_keys` refuses where its set has no row or a line applies, and then writes nothing; else it makes the keys.
-- Assumes nothing.
use mathlib.Core.Path.{refl}
use native.Mathlib.Omega.{arith}
use Rattle.std.proofs.Common.{rules}
use Rattle.std.proofs.lemmas.Result.{err_from_is_err_and}
use Rattle.answers.proofs.LineLaws.{unknown_given, none_applies}
use Rattle.making.proofs.MakingLaws.{keys_done, keys_refused}
use Rattle.making.proofs.make_keys.Goals as goal

pub returns-in_err-known : goal.returns-in_err-known
returns-in_err-known c =
    let result = err_from_is_err_and c.from_residual.result c.from_residual.ensures.1 in
    rw (result.1, result.2) (keys_refused _ (unknown_given _ c.in_err-known.ensures.unknown))

pub returns-in_err-keys_answer : goal.returns-in_err-keys_answer
returns-in_err-keys_answer c =
    let refused = keys_refused _ c.in_err-keys_answer.ensures in
    search (rules, c.in_ok-known.ensures.known, refused)

pub keys_in-requires-clause-seeds_len : goal.keys_in-requires-clause-seeds_len
keys_in-requires-clause-seeds_len c =
    let (_, (sk, (prf, (pk, _)))) = none_applies _ refl c.in_ok-keys_answer.ensures in
    let secret_long = sk _ refl in
    let prf_long = prf _ refl in
    let public_long = pk _ refl in
    (omega arith, omega arith, omega arith)

pub keys_in-requires-clause-keys_len : goal.keys_in-requires-clause-keys_len
keys_in-requires-clause-keys_len c =
    let (_, (_, (_, (_, (public, (secret, _)))))) = none_applies _ refl c.in_ok-keys_answer.ensures in
    (public _ refl, secret _ refl)

pub returns : goal.returns
returns c =
    keys_done _ c.in_ok-known.ensures.known c.in_ok-keys_answer.ensures c.keys_in.ensures.public_after
    c.keys_in.ensures.secret_after
