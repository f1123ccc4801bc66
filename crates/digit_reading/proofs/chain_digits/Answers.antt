-- `chain_digits` refuses where its set has no row or a line applies, and writes nothing; else it writes the digits.
-- Assumes nothing.
use mathlib.Core.Path.{refl}
use Rattle.std.proofs.Common.{rules}
use Rattle.std.proofs.lemmas.Result.{err_from_is_err_and}
use Rattle.rules.proofs.SetLaws.{checksum_fits}
use Rattle.answers.proofs.LineLaws.{unknown_given, none_applies}
use Rattle.digit_reading.proofs.DigitsLaws.{digits_done, digits_refused}
use Rattle.digit_reading.proofs.chain_digits.Goals as goal

pub returns-in_err-known : goal.returns-in_err-known
returns-in_err-known c =
    let result = err_from_is_err_and c.from_residual.result c.from_residual.ensures.1 in
    rw (result.1, result.2) (digits_refused _ (unknown_given _ c.in_err-known.ensures.unknown))

pub returns-in_err-digits_answer : goal.returns-in_err-digits_answer
returns-in_err-digits_answer c =
    let refused = digits_refused _ c.in_err-digits_answer.ensures in
    search (rules, c.in_ok-known.ensures.known, refused)

pub chain_digits-requires : goal.chain_digits-requires
chain_digits-requires c =
    let ready = c.in_ok-known.known.ready in
    let (_, (value, (digits, _))) = none_applies _ refl c.in_ok-digits_answer.ensures in
    (rw (value _ refl) (checksum_fits _ ready.legal), rw (value _ refl) (digits _ refl))

pub returns : goal.returns
returns c =
    digits_done _ c.in_ok-known.ensures.known c.in_ok-digits_answer.ensures c.chain_digits.ensures
