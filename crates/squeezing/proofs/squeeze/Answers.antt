-- `squeeze` draws its bytes: after each turn the bytes out are those drawn, and the sponge is past them.
-- Assumes nothing.
use mathlib.Core.Path.{◌≡◌, refl, sym, ap, ◌∙◌}
use Prim.Native.Nat.{ℕ, ◌≤◌, ◌+◌, ◌-◌}
use mathlib.Core.List.{List, ◌++◌}
use native.Mathlib.Omega.{arith}
use lib.ListN.{length, take}
use lib.Seq.{take_all, take-append-add}
use borrow.Rule.Slice.PartMut.{put_mid}
use Rattle.std.proofs.lemmas.List.{length-take-le}
use Rattle.lists.proofs.Filling.{rest_written, rest_long}
use Rattle.sponge.specs.Stream.{sponge, draw, drawn}
use Rattle.sponge.proofs.Stream.{drawn_next, draw_next}
use Rattle.squeezing.proofs.squeeze.Goals as goal

-- The first bytes of what was lent follow the bytes before it.
lent_front : (m n : ℕ) (l ys : List ℕ) → m ≤ length l
    → take (m + n) (put_mid m (length l - m) l ys) ≡ take m l ++ take n ys
lent_front m n l ys h =
    ap (take (m + n)) (rest_written m l ys)
    ∙ ap (λ (j : ℕ). take (j + n) (take m l ++ ys)) (sym (length-take-le m l h))
    ∙ take-append-add (take m l) ys n

pub loop-i-init : goal.loop-i-init
unfolding draw drawn
loop-i-init c = (omega arith, refl, refl, refl)

pub loop-i-preserved : goal.loop-i-preserved
loop-i-preserved c =
    let l = c.loop-i in
    let r = c.args.s.now.rate in
    let n = c.squeeze_next-i in
    let t = c.turn.ensures in
    let same = t.rate_after ∙ l.invariant.1 in
    let turned = rw l.invariant.1 at t.state_after in
    let k = sponge c.args.s.now.lanes c.args.s.now.at in
    let long = rest_long l.i l.out (omega arith) in
    let front = ap (λ (b : List ℕ). take l.i l.out ++ b) (rw same at n.ensures.out_after) in (
      omega (arith, long, n.auto.out, n.ensures.written),
      n.ensures.rate_after ∙ same,
      drawn_next r (omega arith) k l.i n.result (omega arith) l.invariant.2 turned (rw same at n.ensures.state_after),
      draw_next r (omega arith) k l.i n.result (omega arith) l.invariant.2 turned l.invariant.3
          (lent_front l.i n.result l.out n.new.out (omega arith) ∙ front),
    )

pub returns : goal.returns
returns c =
    let l = c.loop-i in
    let r = c.args.s.now.rate in
    let k = sponge c.args.s.now.lanes c.args.s.now.at in
    let e : l.i ≡ length c.args.out.now = omega arith in
    record {
      state_after = l.invariant.2 ∙ ap (λ (n : ℕ). drawn r n k) e;
      out_after = sym (take_all _ _ c.loop-i-test.false) ∙ l.invariant.3 ∙ ap (λ (n : ℕ). draw r n k) e;
      rate_after = l.invariant.1;
    }
