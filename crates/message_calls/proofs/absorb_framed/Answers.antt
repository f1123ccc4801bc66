-- `absorb_framed` feeds the pieces one after the other.
-- Assumes nothing.
use Rattle.shake.proofs.Laws.{feed_append}
use Rattle.message_calls.proofs.absorb_framed.Goals as goal

pub returns : goal.returns
returns c = rw (feed_append, feed_append) (cc)
