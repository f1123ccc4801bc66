-- 25 lanes are the state of a function where the lane at each place is the function's at its column and row, as calls
-- in turn give them and as stores one after the other leave them: by what is at each place.
-- Assumes nothing.
use mathlib.Core.Path.{◌≡◌, refl, sym, ap, ◌∙◌, subst}
use Prim.Native.Nat.{ℕ, zero, suc, ◌+◌, ◌/◌, ◌%◌, ◌<◌, ◌≤◌}
use mathlib.Core.List.{List}
use native.Mathlib.Omega.{arith}
use native.Mathlib.Decide.{ℕ_discrete}
use native.Mathlib.Nat.{add-zero, zero-add}
use lib.ListN.{length, get_or, set, length-set}
use Rattle.std.proofs.lemmas.List.{ext_get_or, get_or-set_same, get_or-set_other}
use Rattle.std.specs.Fn.{Called}
use Rattle.std.specs.Array.{IsFromFnResult, IsFromFnResultFrom}
use denote.Param.Members.{Mut}
use Rattle.keccak.specs.Keccak.{each, state}

at_each : (f : ℕ → ℕ) (n k i : ℕ) → i < n → get_or (each f k n) i 0 ≡ f (k + i)
unfolding each
at_each f zero k i h = absurd (omega arith)
at_each f (suc n) k zero h = ap f (sym (add-zero k))
at_each f (suc n) k (suc i) h =
    let e : suc k + i ≡ k + suc i = omega arith in
    at_each f n (suc k) i (omega arith) ∙ ap f e

-- The value at a place is the function's.
pub get_or-each : (f : ℕ → ℕ) (n i : ℕ) → i < n → get_or (each f 0 n) i 0 ≡ f i
get_or-each f n i h = at_each f n 0 i h ∙ ap f (zero-add i)

-- As many values as were asked for.
pub length-each : (f : ℕ → ℕ) (k n : ℕ) → length (each f k n) ≡ n
unfolding each
length-each f k zero = refl
length-each f k (suc n) = ap suc (length-each f (suc k) n)

-- 25 lanes, each f of its column and row, are the state of f.
pub state_is : (f : ℕ → ℕ → ℕ) (b : List ℕ) → length b ≡ 25
    → ((i : ℕ) → i < 25 → get_or b i 0 ≡ f (i % 5) (i / 5)) → b ≡ state f
unfolding state
state_is f b l h =
    let g : ℕ → ℕ = λ i. f (i % 5) (i / 5) in
    ext_get_or 0 b (each g 0 25) (l ∙ sym (length-each g 0 25))
    (λ i hi. let low : i < 25 = omega arith in h i low ∙ sym (get_or-each g 25 i low))

-- Calls in turn, each with its value and leaving what the closure reads as it was.
module _ {F : Type 0} (g : Mut F (ℕ × Unit {0}) ℕ) (f : F) (v : ℕ → ℕ)
    (called : (i r : ℕ) (q : F) → i < 25 → Called g f (i, tt) r q → (r ≡ v i) × (q ≡ f)) where
  made_from : (n i : ℕ) (q : F) (b : List ℕ) → i + n ≤ 25 → q ≡ f → IsFromFnResultFrom g q b i n
      → (j : ℕ) → j < n → get_or b (i + j) 0 ≡ v (i + j)
  made_from zero i q b hi e t j h = absurd (omega arith)
  made_from (suc n) i q b hi e t j h =
      let one = called i t.1 t.0 (omega arith) (subst (λ (y : F). Called g y (i, tt) t.1 t.0) e t.3) in
      elim j as (λ j. j < suc n → get_or b (i + j) 0 ≡ v (i + j)) [
        | zero ↦ λ _. let k : i + 0 ≡ i = omega arith in rw k (t.2.1 0 ∙ one.0)
        | suc j ↦ λ hj.
            let k : i + suc j ≡ i + 1 + j = omega arith in
            rw k (made_from n (i + 1) t.0 b (omega arith) one.1 t.4 j (omega arith))
      ] h

-- An array made by such calls is the state of their values.
pub state_made : {F : Type 0} (g : Mut F (ℕ × Unit {0}) ℕ) (f : F) (v : ℕ → ℕ → ℕ)
    → ((i r : ℕ) (q : F) → i < 25 → Called g f (i, tt) r q → (r ≡ v (i % 5) (i / 5)) × (q ≡ f))
    → (b : List ℕ) → IsFromFnResult g f b 25 → b ≡ state v
state_made g f v called b made =
    state_is v b made.long
    (λ i h.
    let z : 0 + i ≡ i = omega arith in
    rw z at (made_from g f (λ i. v (i % 5) (i / 5)) called 25 0 f b (omega arith) refl made.each i h))

-- Of the 25 lanes b, the first i are those of the state of f.
abbrev pub Filled : (ℕ → ℕ → ℕ) → List ℕ → ℕ → Type 0
Filled f b i = (length b ≡ 25) × ((k : ℕ) → k < i → get_or b k 0 ≡ f (k % 5) (k / 5))

-- A store of the next lane makes it one more.
pub filled_next : (f : ℕ → ℕ → ℕ) (b : List ℕ) (i v j : ℕ) → Filled f b i → i < 25 → v ≡ f (i % 5) (i / 5) → i + 1 ≡ j
    → Filled f (set b i v) j
filled_next f b i v j h hi e n = (
  length-set b i v ∙ h.0,
  λ k hk.
      elim (ℕ_discrete k i) [
        | yes p ↦ rw p (get_or-set_same b i v 0 (omega arith) ∙ e)
        | no p ↦ get_or-set_other b i k v 0 p ∙ h.1 k (omega (arith, p))
      ],
)
