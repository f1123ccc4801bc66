-- `roots_in` writes the trees' roots one after the other: what is written and what is left to walk are the whole, and
-- the calls are as many as the trees walked.
-- Assumes nothing.
use mathlib.Core.Path.{◌≡◌, ap, ap₂, ◌∙◌}
use Prim.Native.Nat.{◌+◌, ◌*◌, ◌^◌, ◌≤◌}
use native.Mathlib.Omega.{arith}
use lib.ListN.{length, take, drop, get_or}
use lib.Seq.{take_all}
use Rattle.lists.proofs.Parts.{piece_room, parts_fill}
use Rattle.lists.proofs.Lent.{lent}
use Rattle.lists.proofs.Filling.{part_written, lent_length}
use Rattle.calls.specs.Hashes.{ruled_hashes}
use Rattle.climbs.specs.Leads.{Leads}
use Rattle.climbs.proofs.LeadLaws.{leads_by}
use Rattle.tree_walks.specs.Tree.{tree_run}
use Rattle.tree_walks.proofs.TreeLaws.{tree_calls, roots_turn, roots_end, roots_calls}
use Rattle.tree_walks.proofs.roots_in.Goals as goal

pub slice_bounds-tree_root-end : goal.slice_bounds-tree_root-end
slice_bounds-tree_root-end c =
    let trees = length c.args.ds.now in
    let step = c.tree_bytes-step in
    omega (
      arith,
      piece_room c.loop-j.j trees step.result c.loop-j-test.true,
      parts_fill trees step.result c.requires.lent_len.0 step.ensures,
    )

-- A turn makes one call.
pub overflow_add-calls : goal.overflow_add-calls
overflow_add-calls c =
    let a = c.args in
    let made : c.tree_root-up.result.calls ≡ 1 =
    tree_calls (ruled_hashes a.hashes.now) a.pointed.tree a.pointed.leaf a.a _ _ c.tree_root-up.ensures.counted in
    omega (arith, made)

pub loop-j-preserved : goal.loop-j-preserved
loop-j-preserved c =
    let l = c.loop-j in
    let a = c.args in
    let n = a.hashes.now.kit.n in
    let step = c.tree_bytes-step.result in
    let at = l.j * step in
    let o = l.j * n in
    let w = ruled_hashes a.hashes.now in
    let i = l.j * a.size + get_or a.ds.now l.j 0 in
    let leaf : i ≡ l.j * 2 ^ a.a + get_or a.ds.now l.j 0 =
    ap (λ x. l.j * x + get_or a.ds.now l.j 0) c.requires.sizes.1 in
    let tree : Leads n (tree_run w a.pointed.tree a.pointed.leaf a.a i (take step (drop at a.sig.now)))
    c.tree_root-up.result =
    leads_by (ap (tree_run w a.pointed.tree a.pointed.leaf a.a i) (lent at step a.sig.now)) c.tree_root-up.ensures in
    let room : o + n ≤ length l.out = omega (arith, piece_room l.j (length a.ds.now) n c.loop-j-test.true) in
    let long = c.copy_from_slice.ensures.len ∙ lent_length o n l.out room in
    let next_root : (l.j + 1) * n ≡ o + n = omega arith in
    let next_part : (l.j + 1) * step ≡ at + step = omega arith in
    record {
      walked = rw (next_root, next_part, part_written o n l.out c.copy_from_slice.new.self room long)
          (roots_turn w a.pointed.tree a.pointed.leaf a.a a.ds.now l.j i at step a.sig.now (take o l.out) _
          c.loop-j-test.true
          c.tree_bytes-step.ensures leaf (c.copy_from_slice.ensures.after ∙ tree.value_is) l.invariant.walked);
      counted = ap₂ ◌+◌ l.invariant.counted (tree_calls w a.pointed.tree a.pointed.leaf a.a _ _ tree.counted);
    }

pub returns : goal.returns
returns c =
    let l = c.loop-j in
    let a = c.args in
    let w = ruled_hashes a.hashes.now in
    let done : l.j ≡ length a.ds.now = omega arith in
    let full : length l.out ≤ l.j * a.hashes.now.kit.n = grind arith in
    record {
      out_after = roots_end w a.pointed.tree a.pointed.leaf a.a a.ds.now l.j l.out _ c.loop-j-test.false
          (rw (take_all (l.j * a.hashes.now.kit.n) l.out full) at l.invariant.walked);
      f_calls = l.invariant.counted ∙ done ∙ roots_calls w a.pointed.tree a.pointed.leaf a.a a.ds.now a.sig.now;
    }
