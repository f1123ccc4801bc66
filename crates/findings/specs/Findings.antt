-- What demand 3 points to: a collision with the key's own call, or a chain that starts too low.
-- Assumes nothing.
use Rattle.std.specs.Prelude.{◌≡◌, ◌≢◌, ℕ, suc, ◌-◌, ◌*◌, ◌^◌, ◌<◌, get_or}
use mathlib.Core.List.{List, Memᴰ}
use Rattle.rules.specs.Places.{Bytes, Place, address}
use Rattle.rules.specs.Calls.{Function, F, H, T, Call, call_of, Family, Hashes, under}
use Rattle.rules.specs.Chains.{chains, chain_digits, own_chain}
use Rattle.rules.specs.Layers.{tree_at, leaf_at, own_root}
use Rattle.rules.specs.Forest.{own_forest}
use Rattle.rules.specs.Sets.{Row}
use Rattle.rules.specs.Digest.{Pointed, pointed}
use Rattle.rules.specs.Keys.{piece, key_root, public_key}
use Rattle.rules.specs.Seal.{part, digest_of, seal_with, held_value}
use Rattle.rules.specs.Check.{checked_root, checked_value}

-- ---- Collisions

-- The functions whose calls a collision may name.
pub data Pointable : Function → Type 0 where
  an_f : Pointable F
  an_h : Pointable H
  a_t : Pointable T

-- A call that is in the list `made` and a call of the key's own: the same function at the same place, different inputs,
-- equal outputs.
pub record Collision (w : Hashes) (Own : Call → Type 0) (made : List Call) : Type 0 where
  pub function : Function
  pub pointable : Pointable function
  pub place : Place
  pub theirs : Bytes
  pub ours : Bytes
  pub was_made : Memᴰ (call_of function place theirs) made
  pub is_own : Own (call_of function place ours)
  pub differ : theirs ≢ ours
  pub meet : w.hash function (address place) theirs ≡ w.hash function (address place) ours

-- The key's own calls: those that the rules make from the seeds for a tree of a layer, or for a forest.
pub data OwnCall (r : Row) (f : Family r.n r.m) (sk_seed pk_seed : Bytes) (c : Call) : Type 0 where
  of_tree : (layer tree : ℕ) → layer < r.d → tree < 2 ^ (r.h' * (r.d - suc layer))
      → Memᴰ c (own_root (under f pk_seed) r.h' sk_seed layer tree).calls → OwnCall r f sk_seed pk_seed c
  of_forest : (tree leaf : ℕ) → tree < 2 ^ (r.h - r.h') → leaf < 2 ^ r.h'
      → Memᴰ c (own_forest (under f pk_seed) tree leaf r.a sk_seed r.k).calls → OwnCall r f sk_seed pk_seed c

-- ---- Chains that start too low

-- A seal read at the place that the digest points to.
module _ (r : Row) (f : Family r.n r.m) (pk_seed : Bytes) (at : Pointed) where
  -- In a layer a chain of the seal starts at the key's own value, at the checked value's digit, and that is below the
  -- digit of the held value, which is the one that the holder's seal shows there.
  pub record LowStart (sk_seed seal held : Bytes) : Type 0 where
    pub layer : ℕ
    pub layer_legal : layer < r.d
    pub chain : ℕ
    pub chain_legal : chain < chains r.n
    pub digit : ℕ
    pub digit_is : digit ≡ get_or (chain_digits r.n (checked_value r f pk_seed at seal layer)) chain 0
    pub held_digit : ℕ
    pub held_digit_is : held_digit ≡ get_or (chain_digits r.n (held_value r f pk_seed at sk_seed layer)) chain 0
    pub lower : digit < held_digit
    pub starts : piece r.n chain (part r (suc (suc layer)) seal)
        ≡ own_chain (under f pk_seed) layer (tree_at r.h' at.tree layer) (leaf_at r.h' at.tree at.leaf layer)
        sk_seed chain digit
    pub holder_shows : piece r.n chain (part r (suc (suc layer)) held)
        ≡ own_chain (under f pk_seed) layer (tree_at r.h' at.tree layer) (leaf_at r.h' at.tree at.leaf layer)
        sk_seed chain held_digit

-- ---- Demand 3, for a key made from seeds, a framed message and a seal

module _ (r : Row) (f : Family r.n r.m) (sk_seed pk_seed M seal : Bytes) where
  -- The holder's seal for that message and the seal's randomizer.
  unfoldable pub holders : Bytes
  holders = (seal_with r f (part r 0 seal) sk_seed pk_seed (key_root r f sk_seed pk_seed).result M).result

  -- Where the message and the seal's randomizer point to.
  unfoldable pub points_to : Pointed
  points_to = pointed r (digest_of r f (part r 0 seal) pk_seed (key_root r f sk_seed pk_seed).result M).result

  pub data OneOfThree : Type 0 where
    own_seal : seal ≡ holders → OneOfThree
    collision : Collision (under f pk_seed) (OwnCall r f sk_seed pk_seed)
        (checked_root r f (public_key r f sk_seed pk_seed) M seal).calls → OneOfThree
    low_start : LowStart r f pk_seed points_to sk_seed seal holders → OneOfThree
