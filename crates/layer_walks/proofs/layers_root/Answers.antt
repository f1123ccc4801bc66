-- `layers_root` walks the layers one above the other: what is left from here leads to where the whole leads, and so do
-- the calls.
-- Assumes nothing.
use mathlib.Core.Path.{◌≡◌, sym, ap, ◌∙◌}
use Prim.Native.Nat.{suc, ◌+◌, ◌-◌, ◌*◌}
use native.Mathlib.Omega.{arith}
use lib.ListN.{take, drop}
use Rattle.lists.proofs.Parts.{piece_room, parts_fill}
use Rattle.rules.specs.Calls.{F, of}
use Rattle.counts.specs.Counts.{count}
use Rattle.calls.specs.Hashes.{ruled_hashes}
use Rattle.layer_walks.proofs.UpLaws.{up_run, up_result, up_calls, up_end, up_most}
use Rattle.layer_walks.proofs.UpLaws.{up_turn, up_turn_calls}
use Rattle.layer_walks.proofs.layers_root.Goals as goal

pub slice_bounds-layer_root-end : goal.slice_bounds-layer_root-end
slice_bounds-layer_root-end c =
    let step = c.layer_bytes-step in
    omega (
      arith,
      piece_room c.loop-j.j c.args.d step.result c.loop-j-test.true,
      parts_fill c.args.d step.result c.requires.sig_long step.ensures,
    )

pub overflow_add-calls : goal.overflow_add-calls
overflow_add-calls c =
    let a = c.args in
    let l = c.loop-j in
    let step = c.layer_bytes-step in
    let w = ruled_hashes a.hashes.now in
    let up = c.layer_root-up.ensures in
    omega (
      arith,
      up_turn_calls w a.hp a.d l.j l.t l.k (l.j * step.result) a.size step.result (take a.hashes.now.kit.n l.value)
          a.sig.now
          _ c.loop-j-test.true c.requires.leaves step.ensures up.value_is up.counted,
      up_most w a.hp a.d 0 a.pointed.tree a.pointed.leaf (take a.hashes.now.kit.n a.m) a.sig.now c.requires.small,
      c.requires.few,
    )

pub loop-j-preserved : goal.loop-j-preserved
loop-j-preserved c =
    let a = c.args in
    let l = c.loop-j in
    let step = c.layer_bytes-step in
    let at = l.j * step.result in
    let w = ruled_hashes a.hashes.now in
    let m = take a.hashes.now.kit.n l.value in
    let up = c.layer_root-up.ensures in
    let v = take a.hashes.now.kit.n c.layer_root-up.result.value in
    let next : (l.j + 1) * step.result ≡ at + step.result = omega arith in
    record {
      led = rw next (up_turn w a.hp a.d l.j l.t l.k at a.size step.result m a.sig.now v
          c.loop-j-test.true c.requires.leaves step.ensures up.value_is l.invariant.led);
      counted = rw next (omega (
        arith,
        l.invariant.counted,
        up_turn_calls w a.hp a.d l.j l.t l.k at a.size step.result m a.sig.now v
            c.loop-j-test.true c.requires.leaves step.ensures up.value_is up.counted,
      ));
      long = up.value_long;
    }

pub returns : goal.returns
returns c =
    let l = c.loop-j in
    let a = c.args in
    let w = ruled_hashes a.hashes.now in
    let m = take a.hashes.now.kit.n a.m in
    let rest = drop (l.j * c.layer_bytes-step.result) a.sig.now in
    let end = up_end w a.hp a.d l.j l.t l.k (take a.hashes.now.kit.n l.value) rest c.loop-j-test.false in
    let some : a.d ≡ suc (a.d - 1) = omega (arith, c.requires.some) in
    let long = c.requires.sig_long
    ∙ ap (λ x. x * ((2 * a.hashes.now.kit.n + 3) * a.hashes.now.kit.n + a.hp * a.hashes.now.kit.n)) some in
    record {
      value_is = sym end.0 ∙ l.invariant.led
          ∙ ap (λ k. (up_run w a.hp k 0 a.pointed.tree a.pointed.leaf m a.sig.now).result) some
          ∙ up_result w a.hp (a.d - 1) 0 a.pointed.tree a.pointed.leaf m a.sig.now long;
      counted = omega (arith, end.1, l.invariant.counted)
          ∙ ap (λ k. count (of F) (up_run w a.hp k 0 a.pointed.tree a.pointed.leaf m a.sig.now).calls) some
          ∙ up_calls w a.hp (a.d - 1) 0 a.pointed.tree a.pointed.leaf m a.sig.now long;
      value_long = l.invariant.long;
    }
