-- Laws on bits of numbers, each by the kit's laws of powers and quotients.
-- Assumes nothing.
use mathlib.Core.Path.{◌≡◌, ap, ◌∙◌}
use Prim.Native.Nat.{ℕ, ◌+◌, ◌-◌, ◌*◌, ◌/◌, ◌%◌, ◌^◌, ◌≤◌, ◌<◌}
use native.Mathlib.Nat.{one-mul, mul_assoc, mod-eq_of_lt, mul-add-div_right, mul-add-mod_self_right}
use native.Mathlib.Omega.{arith}
use lib.Pow.{pow_pos, pow-add, pow-lt}

-- One moved up by k bits, within a word of w bits.
pub one_shifted : (k w : ℕ) → k < w → 1 * 2 ^ k % 2 ^ w ≡ 2 ^ k
one_shifted k w h = rw (one-mul (2 ^ k)) (mod-eq_of_lt (pow-lt h))

-- What stands above e + k bits does not change the w ≤ e bits above the first k.
pub above_cut : (A W k e w : ℕ) → w ≤ e → (A * 2 ^ (e + k) + W) / 2 ^ k % 2 ^ w ≡ W / 2 ^ k % 2 ^ w
above_cut A W k e w h =
    let s : e ≡ (e - w) + w = omega arith in
    ap (λ (x : ℕ). (A * x + W) / 2 ^ k % 2 ^ w) (pow-add 2 e k)
    ∙ rw (← mul_assoc A (2 ^ e) (2 ^ k), mul-add-div_right (pow_pos k) (A * 2 ^ e) W)
    (ap (λ (x : ℕ). (A * 2 ^ x + W / 2 ^ k) % 2 ^ w) s
    ∙ rw (
      pow-add 2 (e - w) w,
      ← mul_assoc A (2 ^ (e - w)) (2 ^ w),
      mul-add-mod_self_right (A * 2 ^ (e - w)) (2 ^ w) (W / 2 ^ k),
    ))
