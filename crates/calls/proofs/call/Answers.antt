-- `call` is SHAKE256 of public seed, address and input: they are fed one after the other.
-- Assumes nothing.
use Rattle.shake.proofs.Laws.{shaken, feed_append}
use Rattle.calls.proofs.call.Goals as goal

pub returns : goal.returns
returns c = rw (shaken, feed_append, feed_append) (cc)
