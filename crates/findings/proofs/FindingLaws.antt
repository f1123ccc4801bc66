-- The steps of every search for a finding: equal outputs come from equal inputs, or two calls collide; a collision in a
-- part of a list of calls is one in the whole list.
-- Assumes nothing.
use mathlib.Core.Path.{◌≡◌, refl}
use mathlib.Core.Logic.{◌⊎◌, inl, inr}
use mathlib.Core.HLevel.{Discrete}
use mathlib.Core.List.Memᴰ
use mathlib.Core.List.{List, [], ◌∷◌, ◌++◌, Memᴰ, List-discrete}
use native.Mathlib.Decide.{ℕ_discrete}
use Rattle.rules.specs.Places.{Bytes, Place, address}
use Rattle.rules.specs.Calls.{Function, Call, call_of, Hashes, Run}
use Rattle.findings.specs.Findings.{Pointable, Collision}

pub bytes_discrete : Discrete Bytes
bytes_discrete = List-discrete ℕ_discrete

-- Every call of a run is the key's own.
abbrev pub Owns : (Own : Call → Type 0) {A : Type 0} → Run A → Type 0
Owns Own run = (c : Call) → Memᴰ c run.calls → Own c

module _ {w : Hashes} {Own : Call → Type 0} where
  widen : {s t : List Call} → ((c : Call) → Memᴰ c s → Memᴰ c t) → Collision w Own s → Collision w Own t
  widen f c = record {
    function = c.function;
    pointable = c.pointable;
    place = c.place;
    theirs = c.theirs;
    ours = c.ours;
    was_made = f (call_of c.function c.place c.theirs) c.was_made;
    is_own = c.is_own;
    differ = c.differ;
    meet = c.meet;
  }

  -- A collision with more calls made after it, or before it.
  pub before : {s : List Call} (t : List Call) → Collision w Own s → Collision w Own (s ++ t)
  before t c = widen (λ x. Memᴰ.append_left t) c

  pub after : (s : List Call) {t : List Call} → Collision w Own t → Collision w Own (s ++ t)
  after s c = widen (λ x. Memᴰ.append_right s) c

-- Equal outputs of one function at one place come from equal inputs, or the two calls collide.
pub same_input : (w : Hashes) (Own : Call → Type 0) {g : Function} → Pointable g → (p : Place) (x y : Bytes)
    → Own (call_of g p y) → w.hash g (address p) x ≡ w.hash g (address p) y
    → (x ≡ y) ⊎ Collision w Own (call_of g p x ∷ [])
same_input w Own {g} fht p x y o e = decide (bytes_discrete x y)
  where
    decide : Dec (x ≡ y) → (x ≡ y) ⊎ Collision w Own (call_of g p x ∷ [])
    decide (yes q) = inl q
    decide (no q) = inr (record {
      function = g;
      pointable = fht;
      place = p;
      theirs = x;
      ours = y;
      was_made = Memᴰ.head refl;
      is_own = o;
      differ = q;
      meet = e;
    })

-- A finding ends the search; what is not a finding goes on.
pub then : {A B C : Type 0} → A ⊎ C → (A → B ⊎ C) → B ⊎ C
then (inl a) f = f a
then (inr c) f = inr c

-- A finding, seen from further out.
pub found : {A C D : Type 0} → (C → D) → A ⊎ C → A ⊎ D
found f (inl a) = inl a
found f (inr c) = inr (f c)
