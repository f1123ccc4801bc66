-- What the pieces of a framed message are together.
-- Assumes nothing.
use Rattle.std.specs.Prelude.{◌++◌}
use Rattle.rules.specs.Places.{Bytes}
use Rattle.message_calls.specs.declared.Framed as code

-- The framed message: what precedes the message, and the message.
abbrev pub joined : code.Framed → Bytes
joined f = f.head.now ++ (f.context.now ++ f.message.now)
