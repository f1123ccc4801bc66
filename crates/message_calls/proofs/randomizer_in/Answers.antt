-- `randomizer_in` is the randomizer: the prf seed, the mixed-in bytes and the framed message are fed.
-- Assumes nothing.
use Rattle.shake.proofs.Laws.{shaken, feed_append}
use Rattle.calls.specs.Hashes.{family}
use Rattle.message_calls.proofs.randomizer_in.Goals as goal

pub returns : goal.returns
unfolding family
returns c = rw (shaken, feed_append, feed_append) (cc)
