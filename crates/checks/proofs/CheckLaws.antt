-- A check on plain values: the digest, and the root that the seal leads to where it points, are the rules' check.
-- Assumes nothing.
use mathlib.Core.Path.{◌≡◌, sym, ap, ap₂, ◌∙◌}
use Prim.Native.Nat.{ℕ, ◌-◌, ◌*◌}
use native.Mathlib.Nat.{zero-add, zero-mul}
use lib.ListN.{length, take, drop}
use Rattle.rules.specs.Places.{Bytes}
use Rattle.rules.specs.Calls.{F, of, Family}
use Rattle.rules.specs.Sets.{Row}
use Rattle.rules.specs.Digest.{Pointed, pointed}
use Rattle.rules.specs.Keys.{piece}
use Rattle.rules.specs.Seal.{digest_of, part_start, part_length, part}
use Rattle.rules.specs.Check.{root_at, checked_root}
use Rattle.counts.specs.Counts.{is, count}
use Rattle.rows.proofs.SizeLaws.{rest_piece}

-- On a public key as bytes and a framed message M.
module _ (r : Row) (f : Family r.n r.m) (public M seal : Bytes) (long : length public ≡ 2 * r.n)
    {p : Pointed} (e : p ≡ pointed r (digest_of r f (take r.n seal) (take r.n public)
    (take (length public - r.n) (drop r.n public)) M).result) where
  -- The first of two pieces is the front.
  first_piece : take r.n public ≡ piece r.n 0 public
  first_piece = ap (λ k. take r.n (drop k public)) (sym (zero-mul r.n))

  -- The place, by the seal's randomizer and the two pieces of the key.
  place_is : p ≡ pointed r (digest_of r f (part r 0 seal) (piece r.n 0 public) (piece r.n 1 public) M).result
  unfolding part part_start part_length
  place_is =
      e ∙ ap₂ (λ k x. pointed r (digest_of r f (part r 0 seal) k x M).result) first_piece (rest_piece r.n public long)

  pub checked_made : {root : Bytes} → root ≡ (root_at r f (take r.n public) seal p).result
      → root ≡ (checked_root r f public M seal).result
  unfolding checked_root
  checked_made h = h ∙ ap₂ (λ k q. (root_at r f k seal q).result) first_piece place_is

  pub checked_calls : {calls : ℕ} → calls ≡ count (of F) (root_at r f (take r.n public) seal p).calls
      → calls ≡ count (of F) (checked_root r f public M seal).calls
  unfolding checked_root digest_of count is
  checked_calls h =
      h ∙ ap₂ (λ k q. count (of F) (root_at r f k seal q).calls) first_piece place_is
      ∙ sym (zero-add _)
