-- What an address says of its place: the words that its type lacks are zero, whatever stood there before.
-- Assumes nothing.
use mathlib.Core.Path.{◌≡◌, refl}
use Prim.Native.Nat.{ℕ}
use lib.ListN.{length, take, drop, replicate}
use Rattle.rules.specs.Digits.{digits}
use Rattle.rules.specs.Places.{Place, chain_step, chain_ends, tree_node, forest_node, forest_roots, chain_secret}
use Rattle.rules.specs.Places.{forest_secret, address, words}

-- Every address has 32 bytes.
pub address_long : (p : Place) → length (address p) ≡ 32
unfolding address words digits
address_long (chain_step l t p c s) = refl
address_long (chain_ends l t p) = refl
address_long (tree_node l t z i) = refl
address_long (forest_node t p z i) = refl
address_long (forest_roots t p) = refl
address_long (chain_secret l t p c) = refl
address_long (forest_secret t p i) = refl

-- A tree node's address has no key pair: bytes 20 to 23 are zero.
pub node_no_pair : (l t z i : ℕ) → take 4 (drop 20 (address (tree_node l t z i))) ≡ replicate 4 0
unfolding address words digits
node_no_pair l t z i = refl
