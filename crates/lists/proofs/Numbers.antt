-- Laws on numbers, each by the kit's laws of powers and quotients.
-- Assumes nothing.
use mathlib.Core.Path.{◌≡◌, sym, ap, ◌∙◌}
use Prim.Native.Nat.{ℕ, suc, ◌/◌, ◌^◌}
use native.Mathlib.Numerals.{one-add}
use lib.Pow.{shr-shr}

-- A number halved, and then k times more.
pub half_shift : (i k : ℕ) → i / 2 ^ suc k ≡ i / 2 / 2 ^ k
half_shift i k = ap (λ (e : ℕ). i / 2 ^ e) (sym (one-add k)) ∙ sym (shr-shr i 1 k)
