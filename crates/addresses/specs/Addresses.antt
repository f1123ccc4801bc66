-- What the code's addresses stand for in the rules.
-- Assumes nothing.
use Rattle.std.proofs.Math.Option.{Option, some, none}
use Rattle.std.specs.Prelude.{◌≡◌, cond, ℕ, zero, suc, ◌<◌, ltb, ◌++◌, Result, Ok, Err, MatchResult, codes, decimal}
use Rattle.rules.specs.Places.{Bytes, Place, chain_step, chain_ends, tree_node, forest_node, forest_roots, chain_secret}
use Rattle.rules.specs.Places.{forest_secret, words, address}
use Rattle.addresses.specs.declared.Address.{Address}
use Rattle.addresses.specs.declared.PlaceKind.{PlaceKind}
use Rattle.addresses.specs.declared.PlaceKind.TheVariants.{ChainStep, ChainEnds, TreeNode, ForestNode, ForestRoots}
use Rattle.addresses.specs.declared.PlaceKind.TheVariants.{ChainSecret, ForestSecret}
use Rattle.addresses.specs.declared.UnknownKind.{UnknownKind}

-- The number of the type of a place (section 4.2).
abbrev pub number_of : PlaceKind → ℕ
number_of ChainStep = 0
number_of ChainEnds = 1
number_of TreeNode = 2
number_of ForestNode = 3
number_of ForestRoots = 4
number_of ChainSecret = 5
number_of ForestSecret = 6

-- The result is the type that has the number, or says that none has.
abbrev pub Decodes : (number : ℕ) → Result PlaceKind UnknownKind → Type 0
Decodes number r = MatchResult r (λ kind. number_of kind ≡ number) (λ e. (e.0 ≡ number) × (6 < number))

-- What a number that no type has is printed as.
abbrev pub unknown_text : UnknownKind → Bytes
unknown_text e = codes "no type of address has number " ++ decimal e.0

abbrev pub bytes_of : Address → Bytes
bytes_of a = words a.layer a.tree a.kind a.one a.two a.three

abbrev pub made : Result Address UnknownKind → Option Bytes
made (Ok a) = some (bytes_of a)
made (Err _) = none

-- The place of a type with the words that the type has; above 6 as at 6.
abbrev pub place_at : (kind layer tree one two three : ℕ) → Place
place_at zero l t a b c = chain_step l t a b c
place_at (suc zero) l t a b c = chain_ends l t a
place_at (suc (suc zero)) l t a b c = tree_node l t b c
place_at (suc (suc (suc zero))) l t a b c = forest_node t a b c
place_at (suc (suc (suc (suc zero)))) l t a b c = forest_roots t a
place_at (suc (suc (suc (suc (suc zero))))) l t a b c = chain_secret l t a b
place_at (suc (suc (suc (suc (suc (suc y)))))) l t a b c = forest_secret t a c

-- The address of a type, and none above 6.
unfoldable pub address_at : (kind layer tree one two three : ℕ) → Option Bytes
address_at y l t a b c = cond (ltb y 7) (some (address (place_at y l t a b c))) none
