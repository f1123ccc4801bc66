-- `h` is H of two joined values: public seed, address and both values are fed one after the other.
-- Assumes nothing.
use mathlib.Core.Path.{◌∙◌}
use Prim.Native.Nat.{ℕ}
use lib.ListN.{replicate}
use Rattle.std.proofs.lemmas.List.{length-take-le}
use Rattle.lists.proofs.Parts.{front_part}
use Rattle.sponge.specs.Stream.{finish, draw}
use Rattle.shake.specs.Shake.{rate256}
use Rattle.shake.specs.State.{state}
use Rattle.shake.proofs.Laws.{shaken, feed_append}
use Rattle.calls.specs.Hashes.{family}
use Rattle.calls.proofs.Hashes.h.Goals as goal

pub returns : goal.returns
unfolding family
returns c =
    let n = c.args.self.now.kit.n in
    let drawn = λ (m : ℕ). draw rate256 m (finish rate256 (state c.absorb-2.new.self)) in
    front_part drawn n _ c.end.ensures c.end.auto.out (length-take-le n (replicate 32 0) c.requires)
    ∙ rw (shaken, feed_append, feed_append, feed_append) (cc)
