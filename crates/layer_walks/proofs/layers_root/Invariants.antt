-- `layers_root` walks the layers one above the other: what is left from here leads to where the whole leads, and so do
-- the calls.
-- Assumes nothing.
use mathlib.Core.Path.{◌≡◌}
use Prim.Native.Nat.{◌+◌, ◌-◌, ◌*◌}
use lib.ListN.{length, take, drop}
use Rattle.rules.specs.Calls.{F, of}
use Rattle.counts.specs.Counts.{count}
use Rattle.calls.specs.Hashes.{ruled_hashes}
use Rattle.layer_walks.proofs.UpLaws.{up_run}
use Rattle.layer_walks.proofs.layers_root.Given as goal

abbrev pub invariant-loop-j : goal.invariant-loop-j
invariant-loop-j l = record {
  led : (up_run (ruled_hashes l.hashes) l.hp (l.d - l.j) l.j l.t l.k
      (take l.n l.value) (drop (l.j * l.step) l.sig)).result
      ≡ (up_run (ruled_hashes l.hashes) l.hp l.d 0 l.fn.pointed.tree l.fn.pointed.leaf (take l.n l.initial.value)
      l.sig).result;
  counted : l.calls + count (of F) (up_run (ruled_hashes l.hashes) l.hp (l.d - l.j) l.j l.t l.k
      (take l.n l.value) (drop (l.j * l.step) l.sig)).calls
      ≡ count (of F) (up_run (ruled_hashes l.hashes) l.hp l.d 0 l.fn.pointed.tree l.fn.pointed.leaf
      (take l.n l.initial.value) l.sig).calls;
  long : length l.value ≡ 32;
}
