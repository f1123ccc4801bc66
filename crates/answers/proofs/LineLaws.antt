-- Lines one by one: the first line, lines before others, and when none applies; by cases on whether the first test
-- passes.
-- Assumes nothing.
use mathlib.Core.Path.{◌≡◌, refl, sym, ◌∙◌}
use mathlib.Core.Logic.{◌↔◌, ◌≢◌}
use mathlib.Core.Bool.{Bool, true, false, not, cond, false≢true, ◌&&◌}
use mathlib.Core.List.{List, [], ◌∷◌, ◌++◌}
use mathlib.Core.Option.{Option, none}
use Prim.Native.Nat.{ℕ}
use lib.Dec.{eqb}
use Rattle.std.proofs.lemmas.Bool.Decides.{Decides-eqb, Decides-not}
use Rattle.std.specs.Prelude.{Err}
use Rattle.rules.specs.Sets.{Row}
use Rattle.answers.specs.Answers.{number}
use Rattle.answers.specs.declared.Refusal.{Refusal}
use Rattle.answers.specs.declared.Refusal.TheVariants.{UnknownSet}
use Rattle.answers.specs.Tests.{known, passes, Holds}
use Rattle.answers.specs.Lines.{Line, line, first, NoneApplies, lacks}
use Rattle.answers.proofs.TestLaws.{tells}

-- ---- The first line

-- The refusal of a set without a row is the first line's.
pub unknown_given : {refusal : Refusal} {row : Option Row} (ls : List Line) → (refusal ≡ UnknownSet) × (row ≡ none)
    → number (Err refusal) ≡ first (line 1 (known row) ∷ ls)
unfolding first
unknown_given ls e = rw (e.0, e.1) refl

-- ---- Lines before others

-- Both tests of a joined one passed.
pub both : (a b : Bool) → (a && b) ≡ true → (a ≡ true) × (b ≡ true)
both true b e = (refl, e)
both false b e = absurd (false≢true e)

-- A number that no line has is not given, but for 0.
pub not_given : (k : ℕ) (ls : List Line) → lacks k ls ≡ true → k ≢ 0 → first ls ≢ k
unfolding first
not_given k [] e other z = other (sym z)
not_given k (l ∷ ls) e other z =
    let two = both (not (eqb l.number k)) (lacks k ls) e in
    by_test (passes l.test) ((Decides-not _ (Decides-eqb l.number k)).0 two.0)
    (not_given k ls two.1 other) z
  where
    by_test : (b : Bool) → l.number ≢ k → first ls ≢ k → cond b (first ls) l.number ≢ k
    by_test true here there = there
    by_test false here there = here

-- Where the lines before give a number, it is given.
pub given_early : (xs ys : List Line) → first xs ≢ 0 → first (xs ++ ys) ≡ first xs
unfolding first
given_early [] ys some-applies = absurd (some-applies refl)
given_early (x ∷ xs) ys some-applies = by_test (passes x.test) some-applies (given_early xs ys)
  where
    by_test : (b : Bool) → cond b (first xs) x.number ≢ 0 → (first xs ≢ 0 → first (xs ++ ys) ≡ first xs)
        → cond b (first (xs ++ ys)) x.number ≡ cond b (first xs) x.number
    by_test true h rest = rest h
    by_test false h rest = refl

-- Where they give none, the later ones decide.
pub given_late : (xs ys : List Line) → lacks 0 xs ≡ true → first xs ≡ 0 → first (xs ++ ys) ≡ first ys
unfolding first
given_late [] ys e z = refl
given_late (x ∷ xs) ys e z =
    let two = both (not (eqb x.number 0)) (lacks 0 xs) e in
    by_test (passes x.test) ((Decides-not _ (Decides-eqb x.number 0)).0 two.0) (given_late xs ys two.1) z
  where
    by_test : (b : Bool) → x.number ≢ 0 → (first xs ≡ 0 → first (xs ++ ys) ≡ first ys)
        → cond b (first xs) x.number ≡ 0 → cond b (first (xs ++ ys)) x.number ≡ first ys
    by_test true here rest z = rest z
    by_test false here rest z = absurd (here z)

-- ---- The answer 0

-- It is given exactly when no line applies.
pub zero_given : (ls : List Line) → lacks 0 ls ≡ true → (first ls ≡ 0) ↔ NoneApplies ls
unfolding first
zero_given [] e = (λ z. tt, λ u. refl)
zero_given (l ∷ ls) e =
    let two = both (not (eqb l.number 0)) (lacks 0 ls) e in
    by_test (passes l.test) refl ((Decides-not _ (Decides-eqb l.number 0)).0 two.0) (zero_given ls two.1)
  where
    by_test : (b : Bool) → passes l.test ≡ b → l.number ≢ 0 → (first ls ≡ 0) ↔ NoneApplies ls
        → (cond b (first ls) l.number ≡ 0) ↔ (Holds l.test × NoneApplies ls)
    by_test true p here rest = (λ z. ((tells l.test).0 p, rest.0 z), λ h. rest.1 h.1)
    by_test false p here rest =
        (λ z. absurd (here z), λ h. absurd (false≢true (sym p ∙ (tells l.test).1 h.0)))

-- Where it is given, none applies; the equation stands as code's contracts have it.
pub none_applies : (ls : List Line) → lacks 0 ls ≡ true → 0 ≡ first ls → NoneApplies ls
none_applies ls named z = (zero_given ls named).0 (sym z)
