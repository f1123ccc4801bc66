-- `node` is the node of the rules, by recursion on its height: where it is no leaf there is room for its children.
-- Assumes nothing.
use mathlib.Core.Path.{◌≡◌, refl}
use Prim.Native.Nat.{ℕ, zero, suc, ◌+◌, ◌-◌, ◌*◌, ◌^◌, ◌≤◌, ◌<◌}
use native.Mathlib.Nat.{pow-suc, le_trans, mul-le-mul_right, mul-le-mul_left}
use native.Mathlib.Omega.{arith}
use lib.Pow.{pow_pos}
use Rattle.trees.proofs.nodes.+node.Goals as goal

-- Where node i at height z lies below 2^32 leaves, so does each child c one lower.
child_room : (z i c : ℕ) → (z ≡ 0 → ⊥) → (i + 1) * 2 ^ z ≤ 2 ^ 32 → c ≤ 2 * i + 1 → (c + 1) * 2 ^ (z - 1) ≤ 2 ^ 32
child_room zero i c f h l = absurd (f refl)
child_room (suc k) i c f h l =
    let down : suc k - 1 ≡ k = omega arith in
    let wide : (i + 1) * (2 ^ k * 2) ≤ 2 ^ 32 = rw (pow-suc 2 k) at h in
    rw down (le_trans (mul-le-mul_right {m = c + 1} {n = 2 * i + 2} (2 ^ k) (omega arith)) (omega (arith, wide)))

-- The children's indices are numbers of 32 bits.
child_index : (z i : ℕ) → (z ≡ 0 → ⊥) → (i + 1) * 2 ^ z ≤ 2 ^ 32 → 2 * i + 1 < 2 ^ 32
child_index z i f h =
    let below = child_room z i (2 * i + 1) f h (omega arith) in
    omega (arith, below, mul-le-mul_left (2 * i + 1 + 1) (pow_pos (z - 1)))

pub overflow_mul-i : goal.overflow_mul-i
overflow_mul-i t c = omega (arith, child_index c.args.z c.args.i c.if-z-eq0.false c.requires.1)

pub overflow_mul-i-else-z-eq0 : goal.overflow_mul-i-else-z-eq0
overflow_mul-i-else-z-eq0 t c = omega (arith, child_index c.args.z c.args.i c.if-z-eq0.false c.requires.1)

pub overflow_add-i : goal.overflow_add-i
overflow_add-i t c = omega (arith, child_index c.args.z c.args.i c.if-z-eq0.false c.requires.1)

pub node-left-requires : goal.node-left-requires
node-left-requires t c =
    let a = c.args in
    (omega arith, (c.requires.0, child_room a.z a.i _ c.if-z-eq0.false c.requires.1 (omega arith)))

pub node-right-requires : goal.node-right-requires
node-right-requires t c =
    let a = c.args in
    (omega arith, (c.requires.0, child_room a.z a.i _ c.if-z-eq0.false c.requires.1 (omega arith)))
