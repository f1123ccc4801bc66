-- Where a digest points lies within the key: by the remainders that it is read with, and h = d·h'.
-- Assumes nothing.
use mathlib.Core.Path.{◌≡◌, ap, ◌∙◌, subst}
use Prim.Native.Nat.{ℕ, zero, suc, ◌-◌, ◌*◌, ◌^◌, ◌≤◌, ◌<◌}
use native.Mathlib.Nat.{mod-lt, sub-zero, mul-suc, suc-mul, mul_comm}
use native.Mathlib.Omega.{arith}
use lib.ListN.{length}
use lib.Pow.{pow_pos, shr_lt}
use Rattle.lists.specs.Below.{Below}
use Rattle.rules.specs.Places.{Bytes}
use Rattle.rules.specs.Sets.{Row, Legal}
use Rattle.rules.specs.Digest.{Pointed, last_bits, pointed}
use Rattle.rules.specs.Layers.{tree_at, leaf_at}
use Rattle.rules.proofs.DigitLaws.{length-base2b, base2b_below}

-- A tree of layer 0, a leaf of it, and a digit of a bits for each of the k trees of the forest.
pub record Inside (r : Row) (at : Pointed) : Type 0 where
  pub tree_lt : at.tree < 2 ^ (r.h' * (r.d - 1))
  pub leaf_lt : at.leaf < 2 ^ r.h'
  pub indices_below : Below (2 ^ r.a) at.indices
  pub indices_long : length at.indices ≡ r.k

-- The bits of a tree number are those of the layers above layer 0.
pub heights : (r : Row) → Legal r → r.h - r.h' ≡ r.h' * (r.d - 1)
heights r legal = by_layers r.d r.h legal.some_layer legal.layers
  where
    by_layers : (d h : ℕ) → 0 < d → h ≡ d * r.h' → h - r.h' ≡ r.h' * (d - 1)
    by_layers zero h p e = absurd (omega arith)
    by_layers (suc d) h p e =
        let q : suc d - 1 ≡ d = omega arith in
        rw q (omega (arith, e, suc-mul d r.h', mul_comm d r.h'))

last_bits_lt : (bits : ℕ) (X : Bytes) → last_bits bits X < 2 ^ bits
unfolding last_bits
last_bits_lt bits X = mod-lt _ (pow_pos bits)

pub points_inside : (r : Row) → Legal r → (D : Bytes) → Inside r (pointed r D)
unfolding pointed
points_inside r legal D = record {
  tree_lt = rw (← heights r legal) (last_bits_lt (r.h - r.h') _);
  leaf_lt = last_bits_lt r.h' _;
  indices_below = base2b_below _ r.a r.k;
  indices_long = length-base2b _ r.a r.k;
}

-- The tree and the leaf of each layer above lie within the key too.
pub tree_at_lt : (h' t above j : ℕ) → j ≤ above → t < 2 ^ (h' * above) → tree_at h' t j < 2 ^ (h' * (above - j))
unfolding tree_at
tree_at_lt h' t above zero h t< = rw (sub-zero above) t<
tree_at_lt h' t above (suc j) h t< =
    shr_lt (h' * (above - suc j)) h'
    (subst (λ (x : ℕ). tree_at h' t j < 2 ^ x) (ap (λ (x : ℕ). h' * x) one_less ∙ mul-suc h' (above - suc j))
    (tree_at_lt h' t above j (omega arith) t<))
  where
    one_less : above - j ≡ suc (above - suc j)
    one_less = omega arith

pub leaf_at_lt : (h' t i j : ℕ) → i < 2 ^ h' → leaf_at h' t i j < 2 ^ h'
unfolding leaf_at
leaf_at_lt h' t i zero h = h
leaf_at_lt h' t i (suc j) h = mod-lt (tree_at h' t j) (pow_pos h')
