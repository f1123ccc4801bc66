-- The laws of a climb in code: a node and its sibling are joined by the parity of its index, and what is left of the
-- climb from each height on comes to the same as the whole.
-- Assumes nothing.
use mathlib.Core.Path.{◌≡◌, refl}
use mathlib.Core.List.{◌++◌}
use Prim.Native.Nat.{ℕ, zero, suc, ◌+◌, ◌-◌, ◌/◌, ◌%◌, ◌≤◌, ◌<◌}
use native.Mathlib.Numerals.{add-one}
use native.Mathlib.Omega.{arith}
use lib.ListN.{take, drop}
use lib.Seq.{drop-drop}
use Rattle.lists.proofs.Lent.{lent}
use Rattle.rules.specs.Places.{Bytes, Place, address}
use Rattle.rules.specs.Calls.{H, Hashes}
use Rattle.rules.specs.Trees.{join, climb}

-- Where the index is even the node stands first.
pub joined_even : (r : ℕ) (v s : Bytes) → r ≡ 0 → v ++ s ≡ join r v s
unfolding join
joined_even r v s e = rw e

-- Where the index is odd its sibling stands first.
pub joined_odd : (r : ℕ) (v s : Bytes) → (r ≡ 0 → ⊥) → s ++ v ≡ join r v s
unfolding join
joined_odd zero v s f = absurd (f refl)
joined_odd (suc r) v s f = refl

-- A call's result by another name of its address and of its input.
pub called : (f : Bytes → Bytes → Bytes) {a b x y r : Bytes} → a ≡ b → x ≡ y → r ≡ f a x → r ≡ f b y
called f p q e = cc

module _ (w : Hashes) (place : ℕ → ℕ → Place) (count z i : ℕ) where
  -- A turn: the node above, from the next sibling, and the climb that is left from there.
  pub climb_turn : (at : ℕ) (v auth : Bytes) {u : Bytes} → z < count
      → u ≡ w.hash H (address (place (z + 1) (i / 2))) (join (i % 2) v (take (at + w.n - at) (drop at auth)))
      → (climb w place (count - (z + 1)) (z + 1) (i / 2) u (drop (at + w.n) auth)).result
      ≡ (climb w place (count - z) z i v (drop at auth)).result
  unfolding climb
  climb_turn at v auth h q =
      let e : count - z ≡ suc (count - (z + 1)) = omega arith in
      rw (e, q, lent, add-one z, ← drop-drop w.n at auth)

  -- At the top nothing is left to climb.
  pub climb_end : (v auth : Bytes) → count ≤ z → (climb w place (count - z) z i v auth).result ≡ v
  unfolding climb
  climb_end v auth h =
      let e : count - z ≡ 0 = omega arith in
      rw e
