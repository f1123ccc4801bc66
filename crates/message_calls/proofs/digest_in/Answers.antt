-- `digest_in` is the digest: the randomizer, the public seed, the root and the framed message are fed.
-- Assumes nothing.
use Rattle.shake.proofs.Laws.{shaken, feed_append}
use Rattle.calls.specs.Hashes.{family}
use Rattle.message_calls.proofs.digest_in.Goals as goal

pub returns : goal.returns
unfolding family
returns c = rw (shaken, feed_append, feed_append, feed_append) (cc)
