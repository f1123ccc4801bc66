-- The places of a key, and the 32 bytes that name each (FIPS 205, sections 4.2 and 4.3).
-- Assumes nothing.
use Rattle.std.specs.Prelude.{◌≡◌, List, ◌++◌, ℕ, length}
use Rattle.lists.specs.Below.{Below}
use Rattle.rules.specs.Digits.{to_byte}

abbrev pub Bytes : Type 0
Bytes = List ℕ

-- x is a string of n bytes.
pub record IsBytes (n : ℕ) (x : Bytes) : Type 0 where
  pub long : length x ≡ n
  pub small : Below 256 x

-- A place for each of the seven types of address, with the words that its type has. A forest lies in layer 0.
pub data Place : Type 0 where
  chain_step : (layer tree pair chain step : ℕ) → Place
  chain_ends : (layer tree pair : ℕ) → Place
  tree_node : (layer tree height index : ℕ) → Place
  forest_node : (tree pair height index : ℕ) → Place
  forest_roots : (tree pair : ℕ) → Place
  chain_secret : (layer tree pair chain : ℕ) → Place
  forest_secret : (tree pair index : ℕ) → Place

-- Layer (4 bytes), tree (12), type (4) and three words (4 each), big-endian: figure 2.
unfoldable pub words : (layer tree type a b c : ℕ) → Bytes
words l t y a b c = to_byte l 4 ++ (to_byte t 12 ++ (to_byte y 4 ++ (to_byte a 4 ++ (to_byte b 4 ++ to_byte c 4))))

-- The address of a place: figures 3 to 9. A word that its type lacks is zero.
unfoldable pub address : Place → Bytes
address (chain_step l t p c s) = words l t 0 p c s
address (chain_ends l t p) = words l t 1 p 0 0
address (tree_node l t z i) = words l t 2 0 z i
address (forest_node t p z i) = words 0 t 3 p z i
address (forest_roots t p) = words 0 t 4 p 0 0
address (chain_secret l t p c) = words l t 5 p c 0
address (forest_secret t p i) = words 0 t 6 p 0 i
