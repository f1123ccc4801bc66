-- `theta` is θ: each lane is the definition's, since a place is a column and a row.
-- Assumes nothing.
use mathlib.Core.Path.{◌≡◌, sym, ap, ap₂, ◌∙◌}
use Prim.Native.Nat.{ℕ, ◌%◌}
use mathlib.Core.List.{List}
use native.Mathlib.Omega.{arith}
use lib.Bits.{bit_xor}
use lib.ListN.{get_or}
use Rattle.std.proofs.Common.{rules}
use Rattle.keccak.specs.Keccak.{lane, D, θ}
use Rattle.keccak.proofs.Each.{get_or-each, state_made}
use Rattle.keccak.proofs.Rounds.{lane_place}
use Rattle.keccak.proofs.theta.Goals as goal

pub returns : goal.returns
unfolding θ
returns c =
    let a = c.args.a.now in
    state_made _ _ (λ x y. bit_xor (lane a x y) (D a x))
    (λ i r q h k.
    let d = ap (λ (t : List ℕ). get_or t (i % 5) 0) c.effects-d.ensures ∙ get_or-each (D a) 5 (i % 5) (omega arith) in
    let e : r ≡ bit_xor (get_or a i 0) (get_or c.effects-d.result (i % 5) 0) = search rules in
    (e ∙ ap₂ bit_xor (sym (lane_place a i h)) d, search rules))
    _ c.from_fn.ensures.items
