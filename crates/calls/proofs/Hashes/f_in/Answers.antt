-- `f_in` is F of public seed, address and input: they are fed one after the other.
-- Assumes nothing.
use Rattle.calls.specs.Hashes.{family}
use Rattle.shake.proofs.Laws.{shaken, feed_append}
use Rattle.calls.proofs.Hashes.f_in.Goals as goal

pub returns : goal.returns
unfolding family
returns c = rw (shaken, feed_append, feed_append) (cc)
