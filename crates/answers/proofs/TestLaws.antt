-- Each test passes exactly when what it tells holds, and fails exactly when the contrary does: by cases on the test.
-- Assumes nothing.
use mathlib.Core.Path.{◌≡◌, refl, sym, ◌∙◌, subst}
use mathlib.Core.Bool.{Bool, true, false, not, false≢true, ◌||◌}
use mathlib.Core.Option.{Option, some, none, some-injective, none-ne-some, some-ne-none}
use Prim.Native.Nat.{ℕ, ◌≤◌}
use native.Mathlib.Nat.{lt_of_not-le, not-le_of_lt}
use lib.Dec.{leb}
use Rattle.std.specs.Prelude.{Decides}
use Rattle.std.proofs.lemmas.Bool.{leb-true, le-leb}
use Rattle.std.proofs.lemmas.Bool.Decides.{Decides-eqb, Decides-not, Decides-or, Decides-like}
use Rattle.std.proofs.lemmas.Slice.Eq.{bytes_eq-Decides}
use Rattle.rules.specs.Sets.{Row}
use Rattle.answers.specs.Tests.{Test, equal, within, alike, either, known, under, passes, Holds, Under, Fails}

leb_decides : (m n : ℕ) → Decides (leb m n) (m ≤ n)
leb_decides m n = (leb-true m n, le-leb m n)

nor_decides : (a b : Bool) {P Q : Type 0} → Decides (not a) P → Decides (not b) Q → Decides (not (a || b)) (P × Q)
nor_decides true b s t = (λ e. absurd (false≢true e), λ p. s.1 p.0)
nor_decides false b s t = (λ e. (s.0 refl, t.0 e), λ p. t.1 p.1)

-- What is said of a known set's row is said of the row found.
pub at_row : (row : Option Row) (P : Row → Type 0) (r : Row) → row ≡ some r → Under row P → P r
at_row row P r e u = subst P (some-injective u.known r (sym u.found ∙ e)) u.holds

-- A test passes exactly when what it tells holds.
pub tells : (t : Test) → Decides (passes t) (Holds t)
tells (equal x y) = Decides-eqb x y
tells (within x limit) = leb_decides x limit
tells (alike x y) = bytes_eq-Decides x y
tells (either s t) = Decides-or (passes s) (passes t) (tells s) (tells t)
tells (known none) = (λ e. absurd (false≢true e), λ k. absurd (none-ne-some k.0 k.1))
tells (known (some r)) = (λ e. (r, refl), λ k. refl)
tells (under none test) = (λ e r q. absurd (none-ne-some r q), λ h. refl)
tells (under (some r) test) = (
  λ e s q. subst (λ (x : Row). Holds (test x)) (some-injective r s q) ((tells (test r)).0 e),
  λ h. (tells (test r)).1 (h r refl),
)

-- It fails exactly when the contrary holds.
pub denies : (t : Test) → Decides (not (passes t)) (Fails t)
denies (equal x y) = Decides-not _ (Decides-eqb x y)
denies (within x limit) = Decides-like _ lt_of_not-le not-le_of_lt (Decides-not _ (leb_decides x limit))
denies (alike x y) = Decides-not _ (bytes_eq-Decides x y)
denies (either s t) = nor_decides (passes s) (passes t) (denies s) (denies t)
denies (known none) = (λ e. refl, λ e. refl)
denies (known (some r)) = (λ e. absurd (false≢true e), λ e. absurd (some-ne-none r e))
denies (under none test) = (λ e. absurd (false≢true e), λ u. absurd (none-ne-some u.known u.found))
denies (under (some r) test) = (
  λ e. record { known = r; found = refl; holds = (denies (test r)).0 e },
  λ u. (denies (test r)).1 (at_row (some r) (λ s. Fails (test s)) r refl u),
)
