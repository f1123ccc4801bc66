-- What is said of the row of a set: which numbers have none, and what follows for the row found.
-- Assumes nothing.
use mathlib.Core.Path.{◌≡◌, refl, sym, ◌∙◌}
use mathlib.Core.Logic.{◌↔◌, ◌≢◌}
use mathlib.Core.Bool.{Bool, true, false, cond, false≢true}
use mathlib.Core.List.{List, [], ◌∷◌}
use mathlib.Core.Option.{Option, some, none, some-ne-none}
use Prim.Native.Nat.{ℕ}
use lib.Dec.{eqb}
use Rattle.rules.specs.Sets.{Row, rows, find, row_of}
use Rattle.rules.proofs.SetLaws.{find_next}
use Rattle.answers.specs.Tests.{Under}
use Rattle.std.proofs.lemmas.Bool.Decides.{Decides-eqb}
use Rattle.demands.specs.Table.{Unlisted}

-- What holds of the row, where there is one.
pub found : (row : Option Row) (P : Row → Type 0) → (r : Row) × (row ≡ some r) → ((r : Row) → row ≡ some r → P r)
    → Under row P
found row P (r, e) f = record { known = r; found = e; holds = f r e }

-- What follows for the row found.
pub mapped : (row : Option Row) (P Q : Row → Type 0) → ((r : Row) → row ≡ some r → P r → Q r)
    → Under row P → Under row Q
mapped row P Q f u = record { known = u.known; found = u.found; holds = f u.known u.found u.holds }

-- A set has no row exactly when no row has its number.
find_none : (set : ℕ) (rs : List Row) → (find set rs ≡ none) ↔ Unlisted set rs
unfolding find Unlisted
find_none set [] = (λ e. tt, λ u. refl)
find_none set (q ∷ rs) =
    let rest = find_none set rs in (
      λ e. by_test (eqb set q.number) refl e rest.0,
      λ u. find_next set q rs u.0 ∙ rest.1 u.1,
    )
  where
    by_test : (b : Bool) → eqb set q.number ≡ b → cond b (some q) (find set rs) ≡ none
        → (find set rs ≡ none → Unlisted set rs) → (set ≢ q.number) × Unlisted set rs
    by_test true h e rest = absurd (some-ne-none q e)
    by_test false h e rest = (λ x. false≢true (sym h ∙ (Decides-eqb set q.number).1 x), rest e)

pub no_row : (set : ℕ) → (row_of set ≡ none) ↔ Unlisted set rows
unfolding row_of
no_row set = find_none set rows
