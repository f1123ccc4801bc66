-- Lines in the paper's order give the number that the table gives: a line that applies has none before it that does,
-- since every later one comes after it.
-- Assumes nothing.
use mathlib.Core.Path.{◌≡◌, refl, sym, ◌∙◌, subst}
use mathlib.Core.Logic.{◌↔◌, ◌≢◌, ◌⊎◌, inl, inr}
use mathlib.Core.Bool.{Bool, true, false, not, cond, false≢true, ◌&&◌, ◌||◌}
use mathlib.Core.List.{List, [], ◌∷◌}
use Prim.Native.Nat.{ℕ, ◌<◌}
use native.Mathlib.Nat.{lt_of_not-le, not-le_of_lt}
use native.Mathlib.Omega.{arith}
use lib.Dec.{eqb, ltb}
use Rattle.std.specs.Prelude.{Decides}
use Rattle.std.proofs.lemmas.Bool.Decides.{Decides-eqb, Decides-ltb, Decides-not, Decides-and, Decides-or}
use Rattle.answers.specs.Tests.{passes, Holds, Fails}
use Rattle.answers.specs.Lines.{Line, first, NoneApplies, lacks}
use Rattle.answers.proofs.TestLaws.{tells, denies}
use Rattle.answers.proofs.LineLaws.{both, zero_given}
use Rattle.demands.specs.Table.{Before, Given, none_applies, first_applies, Applies, applies, First, before}
use Rattle.demands.specs.Table.{none_before, ordered}

-- ---- What the truth values tell

before_tells : (k c : ℕ) → Decides (before k c) (Before k c)
before_tells k c =
    Decides-and (not (eqb k 5)) (eqb c 5 || ltb k c) (Decides-not (eqb k 5) (Decides-eqb k 5))
    (Decides-or (eqb c 5) (ltb k c) (Decides-eqb c 5) (Decides-ltb k c))

applies_tells : (ls : List Line) (k : ℕ) → Decides (applies ls k) (Applies ls k)
unfolding applies
applies_tells [] k = (λ e. absurd (false≢true e), λ z. absurd z)
applies_tells (l ∷ ls) k =
    Decides-or (eqb l.number k && not (passes l.test)) (applies ls k)
    (Decides-and (eqb l.number k) (not (passes l.test)) (Decides-eqb l.number k) (denies l.test)) (applies_tells ls k)

-- ---- The first line that applies

-- A test fails where it doesn't pass, and what holds where it passes doesn't hold where it fails.
failed : (l : Line) → passes l.test ≡ false → Fails l.test
failed l e = (denies l.test).0 (subst (λ (b : Bool). not b ≡ true) (sym e) refl)

clear : (l : Line) → passes l.test ≡ true → ¬ Fails l.test
clear l e f = false≢true (subst (λ (b : Bool). not b ≡ true) e ((denies l.test).1 f))

-- A number comes not before itself.
not_itself : (k : ℕ) → ¬ Before k k
not_itself k (other, inl five) = other five
not_itself k (other, inr less) = not-le_of_lt less (omega arith)

-- No later line has a number before c.
later : (c : ℕ) (ls : List Line) → none_before c ls ≡ true → (k : ℕ) → Before k c → ¬ Applies ls k
unfolding none_before
later c [] e k b a = a
later c (l ∷ ls) e k b (inl here) =
    let two = both (not (before l.number c)) (none_before c ls) e in
    (Decides-not (before l.number c) (before_tells l.number c)).0 two.0
    (subst (λ (x : ℕ). Before x c) (sym here.0) b)
later c (l ∷ ls) e k b (inr there) =
    later c ls (both (not (before l.number c)) (none_before c ls) e).1 k b there

-- Lines in order give the number of the table.
first_given : (ls : List Line) → ordered ls ≡ true → Given (Applies ls) (first ls)
unfolding first ordered
first_given [] e = none_applies refl (λ k a. a)
first_given (l ∷ ls) e =
    let two = both (none_before l.number ls) (ordered ls) e in
    by_test (passes l.test) refl two.0 (first_given ls two.1)
  where
    none_here : passes l.test ≡ true → (k : ℕ) → ¬ Applies ls k → ¬ Applies (l ∷ ls) k
    none_here p k none-there (inl here) = clear l p here.1
    none_here p k none-there (inr there) = none-there there

    by_test : (b : Bool) → passes l.test ≡ b → none_before l.number ls ≡ true → Given (Applies ls) (first ls)
        → Given (Applies (l ∷ ls)) (cond b (first ls) l.number)
    by_test true p n (none_applies z nowhere) = none_applies z (λ k. none_here p k (nowhere k))
    by_test true p n (first_applies a lower) = first_applies (inr a) (λ k b. none_here p k (lower k b))
    by_test false p n g = first_applies (inl (refl, failed l p)) lower
      where
        lower : (k : ℕ) → Before k l.number → ¬ Applies (l ∷ ls) k
        lower k b (inl here) = not_itself k (subst (λ (x : ℕ). Before k x) here.0 b)
        lower k b (inr there) = later l.number ls n k b there

-- ---- Only one number is given

-- Of two numbers that don't come before each other there is one.
one_number : (c e : ℕ) → ¬ Before c e → ¬ Before e c → c ≡ e
one_number c e p q = by_five (eqb c 5) (eqb e 5) refl refl
  where
    is : (x : ℕ) → eqb x 5 ≡ true → x ≡ 5
    is x h = (Decides-eqb x 5).0 h

    other : (x : ℕ) → eqb x 5 ≡ false → x ≢ 5
    other x h five = false≢true (sym h ∙ (Decides-eqb x 5).1 five)

    by_five : (a b : Bool) → eqb c 5 ≡ a → eqb e 5 ≡ b → c ≡ e
    by_five true true h g = is c h ∙ sym (is e g)
    by_five true false h g = absurd (q (other e g, inl (is c h)))
    by_five false true h g = absurd (p (other c h, inl (is e g)))
    by_five false false h g =
        let low = lt_of_not-le (λ (less : c < e). p (other c h, inr less)) in
        let high = lt_of_not-le (λ (less : e < c). q (other e g, inr less)) in
        omega (arith, low, high)

one_given : (line : ℕ → Type 0) (c e : ℕ) → Given line c → Given line e → c ≡ e
one_given line c e (none_applies z no-c) (none_applies y no-e) = z ∙ sym y
one_given line c e (none_applies z no-c) (first_applies y no-e) = absurd (no-c e y)
one_given line c e (first_applies z no-c) (none_applies y no-e) = absurd (no-e c z)
one_given line c e (first_applies z no-c) (first_applies y no-e) =
    one_number c e (λ b. no-e c b z) (λ b. no-c e b y)

-- Lines that apply together give one number.
given_as : (line other : ℕ → Type 0) → ((k : ℕ) → line k ↔ other k) → (c : ℕ) → Given line c → Given other c
given_as line other f c (none_applies z nowhere) = none_applies z (λ k o. nowhere k ((f k).1 o))
given_as line other f c (first_applies l lower) = first_applies ((f c).0 l) (λ k b o. lower k b ((f k).1 o))

-- An answer is 0 exactly when no line applies.
pub done_when : (ls : List Line) → lacks 0 ls ≡ true → (n : ℕ) → n ≡ first ls → (n ≡ 0) ↔ NoneApplies ls
done_when ls named n e = (λ z. (zero_given ls named).0 (sym e ∙ z), λ h. e ∙ (zero_given ls named).1 h)

-- ---- The three ways to say which number is given

-- In propositions.
pub answer_given : (ls : List Line) → ordered ls ≡ true → (n : ℕ) → n ≡ first ls
    → (c : ℕ) → (n ≡ c) ↔ Given (Applies ls) c
answer_given ls sorted n e c = (
  λ q. subst (Given (Applies ls)) (sym e ∙ q) (first_given ls sorted),
  λ g. e ∙ one_given (Applies ls) (first ls) c (first_given ls sorted) g,
)

-- In truth values.
pub answer_computed : (ls : List Line) → ordered ls ≡ true → (c : ℕ)
    → (first ls ≡ c) ↔ Given (λ k. applies ls k ≡ true) c
answer_computed ls sorted c = (
  λ q. subst (Given (λ k. applies ls k ≡ true)) q computed,
  λ g. one_given (λ k. applies ls k ≡ true) (first ls) c computed g,
)
  where
    computed : Given (λ k. applies ls k ≡ true) (first ls)
    computed =
        given_as (Applies ls) (λ k. applies ls k ≡ true) (λ k. ((applies_tells ls k).1, (applies_tells ls k).0))
        (first ls) (first_given ls sorted)

-- Of lines in any order.
pub first_exactly : (ls : List Line) (c : ℕ) → (first ls ≡ c) ↔ First ls c
unfolding first
first_exactly [] c = (sym, sym)
first_exactly (l ∷ ls) c = by_test (passes l.test) refl (first_exactly ls c)
  where
    by_test : (b : Bool) → passes l.test ≡ b → (first ls ≡ c) ↔ First ls c
        → (cond b (first ls) l.number ≡ c) ↔ ((Fails l.test × (l.number ≡ c)) ⊎ (Holds l.test × First ls c))
    by_test true p rest = (λ e. inr ((tells l.test).0 p, rest.0 e), back)
      where
        back : (Fails l.test × (l.number ≡ c)) ⊎ (Holds l.test × First ls c) → first ls ≡ c
        back (inl here) = absurd (clear l p here.0)
        back (inr there) = rest.1 there.1
    by_test false p rest = (λ e. inl (failed l p, e), back)
      where
        back : (Fails l.test × (l.number ≡ c)) ⊎ (Holds l.test × First ls c) → l.number ≡ c
        back (inl here) = here.1
        back (inr there) = absurd (false≢true (sym p ∙ (tells l.test).1 there.0))
