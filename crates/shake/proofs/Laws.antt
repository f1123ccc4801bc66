-- SHAKE256 is what is drawn from a sponge that was fed the message and finished, pieces join, and what is drawn splits:
-- each law for callers is one of the stream's, at SHAKE256's 17 lanes.
-- Assumes nothing.
use mathlib.Core.Path.{◌≡◌, refl, sym}
use Prim.Native.Nat.{ℕ, ◌+◌, ◌≤◌}
use mathlib.Core.List.{List, [], ◌++◌}
use native.Mathlib.Omega.{arith}
use lib.ListN.{length, take}
use Rattle.lists.specs.Below.{Below}
use Rattle.shake.specs.Shake.{rate256, shake256}
use Rattle.sponge.specs.Stream.{Sponge, empty, feed, finish, draw, drawn}
use Rattle.shake.proofs.Blocks.{keccak_stream}
use Rattle.sponge.proofs.Stream as Stream

-- SHAKE256 of m: m is fed, the sponge finished and n bytes drawn.
pub shaken : (m : List ℕ) (n : ℕ) → shake256 m n ≡ draw rate256 n (finish rate256 (feed rate256 empty m))
unfolding shake256
shaken m n = keccak_stream 17 (omega arith) (omega arith) m n

-- No bytes change nothing.
pub feed_nil : (k : Sponge) → feed rate256 k [] ≡ k
unfolding feed
feed_nil k = refl

-- Pieces fed one after the other are the pieces joined.
pub feed_append : (k : Sponge) (a b : List ℕ) → feed rate256 k (a ++ b) ≡ feed rate256 (feed rate256 k a) b
feed_append k a b = Stream.feed_append rate256 k a b

-- Bytes drawn one piece after the other are one piece.
pub draw_add : (i n : ℕ) (k : Sponge) → draw rate256 (i + n) k ≡ draw rate256 i k ++ draw rate256 n (drawn rate256 i k)
draw_add i n k = Stream.draw_add rate256 i n k

-- They leave the sponge at the same place.
pub drawn_add : (i n : ℕ) (k : Sponge) → drawn rate256 (i + n) k ≡ drawn rate256 n (drawn rate256 i k)
drawn_add i n k = Stream.drawn_add rate256 i n k

-- A shorter output is the front of a longer one.
pub shake256_front : (m : List ℕ) (n k : ℕ) → n ≤ k → take n (shake256 m k) ≡ shake256 m n
shake256_front m n k h =
    rw (shaken m k, shaken m n) (sym (Stream.draw_front rate256 n k (finish rate256 (feed rate256 empty m)) h))

-- As many bytes come as are asked for.
pub length-shake256 : (m : List ℕ) (n : ℕ) → length (shake256 m n) ≡ n
length-shake256 m n = rw shaken (Stream.length-draw rate256 n (finish rate256 (feed rate256 empty m)))

-- Each is below 256.
pub below_shake256 : (m : List ℕ) (n : ℕ) → Below 256 (shake256 m n)
below_shake256 m n = rw shaken (Stream.below_draw rate256 n (finish rate256 (feed rate256 empty m)))
