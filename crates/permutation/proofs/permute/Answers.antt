-- `permute` is all the rounds: after some of the constants the state is that of as many rounds, and the table of
-- constants is what the standard's register gives.
-- Assumes nothing.
use mathlib.Core.Path.{◌≡◌, refl, sym, ap, ap₂, ◌∙◌}
use Prim.Native.Nat.{ℕ}
use native.Mathlib.Omega.{arith}
use Rattle.keccak.specs.Constants.{register, rc, constant_bits, constant}
use Rattle.keccak.specs.Keccak.{each, round, rounds, keccak_f}
use Rattle.keccak.proofs.Each.{get_or-each}
use Rattle.keccak.proofs.Rounds.{rounds_next}
use Rattle.permutation.proofs.permute.Goals as goal

pub loop-c-init : goal.loop-c-init
unfolding rounds
loop-c-init c = refl

-- The table is what the standard's register gives, by computation.
pub loop-c-preserved : goal.loop-c-preserved
unfolding each constant constant_bits rc register
loop-c-preserved c =
    let l = c.loop-c in
    c.round.ensures ∙ ap₂ round (get_or-each constant 24 l.c-index (omega arith)) l.invariant
    ∙ sym (rounds_next l.c-index c.args.s.now)

pub returns : goal.returns
unfolding keccak_f
returns c =
    let e : c.loop-c.c-index ≡ 24 = omega arith in
    c.loop-c.invariant ∙ ap (λ (n : ℕ). rounds n c.args.s.now) e
