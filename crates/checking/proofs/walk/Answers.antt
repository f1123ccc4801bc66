-- `walk` refuses where its set has no row or a line before the walk applies; else the root that it comes to decides.
-- Assumes nothing.
use mathlib.Core.Path.{refl, ap, ◌∙◌}
use mathlib.Core.Bool.{Bool, cond}
use native.Mathlib.Omega.{arith}
use Rattle.std.specs.Prelude.{Ok, Err}
use Rattle.std.proofs.Common.{rules}
use Rattle.std.proofs.lemmas.Result.{err_from_is_err_and}
use Rattle.rows.proofs.SizeLaws.{rest_piece}
use Rattle.answers.proofs.LineLaws.{unknown_given, none_applies}
use Rattle.checking.proofs.CheckingLaws.{check_refused, key_long, check_walked}
use Rattle.answers.specs.declared.Refusal.TheVariants.{RootDiffers}
use Rattle.checking.proofs.walk.Goals as goal

pub returns-in_err-known : goal.returns-in_err-known
returns-in_err-known c =
    let result = err_from_is_err_and c.from_residual.result c.from_residual.ensures.1 in
    rw (result.1, result.2) (check_refused _ (unknown_given _ c.in_err-known.ensures.unknown))

pub returns-in_err-check_answer : goal.returns-in_err-check_answer
returns-in_err-check_answer c =
    let refused = check_refused _ c.in_err-check_answer.ensures in
    search (rules, c.in_ok-known.ensures.known, refused)

pub checked_root-walked-requires : goal.checked_root-walked-requires
checked_root-walked-requires c =
    let (_, (public, (_, (seal, _)))) = none_applies _ refl c.in_ok-check_answer.ensures in
    (public _ refl, seal _ refl)

pub shared_ref_as_front-root : goal.shared_ref_as_front-root
shared_ref_as_front-root c = c.in_ok-known.known.ready.fit.values

pub slice_bounds-own-count : goal.slice_bounds-own-count
slice_bounds-own-count c =
    omega (arith, key_long _ _ _ _ c.in_ok-known.known.ready c.in_ok-check_answer.ensures)

pub slice_bounds-own-start : goal.slice_bounds-own-start
slice_bounds-own-start c =
    omega (arith, key_long _ _ _ _ c.in_ok-known.known.ready c.in_ok-check_answer.ensures)

pub returns : goal.returns
returns c =
    let long = key_long _ _ _ _ c.in_ok-known.known.ready c.in_ok-check_answer.ensures in
    check_walked _ c.in_ok-known.ensures.known c.in_ok-check_answer.ensures
    (c.demand-answer.ensures ∙ ap (λ (b : Bool). cond b (Ok tt) (Err RootDiffers)) c.same-alike.ensures)
    c.checked_root-walked.ensures.value_is (rest_piece _ _ long) c.checked_root-walked.ensures.counted
