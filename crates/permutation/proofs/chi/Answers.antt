-- `chi` is χ, a row a turn: each of the five stores is the next lane of the definition.
-- Assumes nothing.
use mathlib.Core.Path.{refl}
use Prim.Native.Nat.{◌+◌, ◌*◌}
use native.Mathlib.Omega.{arith}
use Rattle.keccak.specs.Keccak.{χ, inverted}
use Rattle.keccak.proofs.Each.{state_is}
use Rattle.keccak.proofs.Rounds.{chosen, chosen_next}
use Rattle.permutation.proofs.chi.Goals as goal

pub loop-y-init : goal.loop-y-init
loop-y-init c = (refl, λ k h. absurd (omega arith))

pub loop-y-preserved : goal.loop-y-preserved
unfolding inverted
loop-y-preserved c =
    let l = c.loop-y in
    let s = c.args.a.now in
    let i = 5 * l.y in
    let f₁ = chosen_next s l.b i (i + 1) (i + 2) (i + 1) l.invariant (omega arith) in
    let f₂ = chosen_next s _ (i + 1) (i + 2) (i + 3) (i + 2) f₁ (omega arith) in
    let f₃ = chosen_next s _ (i + 2) (i + 3) (i + 4) (i + 3) f₂ (omega arith) in
    let f₄ = chosen_next s _ (i + 3) (i + 4) i (i + 4) f₃ (omega arith) in
    chosen_next s _ (i + 4) i (i + 1) (5 * (l.y + 1)) f₄ (omega arith)

pub returns : goal.returns
unfolding χ
returns c =
    let l = c.loop-y in
    state_is (chosen c.args.a.now) l.b l.invariant.0 (λ k h. l.invariant.1 k (omega arith))
