-- What the struct holds as the stream of bytes that the laws speak of.
-- Assumes nothing.
use Rattle.sponge.specs.Stream.{Sponge, sponge}
use Rattle.shake.specs.declared.Shake256.{Shake256}

abbrev pub state : Shake256 → Sponge
state s = sponge s.sponge.lanes s.sponge.at
