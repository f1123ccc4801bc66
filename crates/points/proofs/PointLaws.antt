-- What is cut out of a digest is what the rules take from it: the forest's bytes, the tree's and the leaf's lie one
-- after the other and fill it.
-- Assumes nothing.
use mathlib.Core.Path.{◌≡◌, sym, ap, ◌∙◌}
use mathlib.Core.List.{List}
use Prim.Native.Nat.{ℕ, zero, suc, ◌+◌, ◌-◌, ◌*◌, ◌%◌, ◌^◌, ◌≤◌, ◌<◌}
use native.Mathlib.Nat.{mod-eq_of_lt, mod-lt, lt_of_lt_of_le, suc-mul}
use native.Mathlib.Omega.{arith}
use lib.ListN.{length, take, drop, length-drop}
use lib.Seq.{take_all, drop-drop}
use lib.Pow.{pow_pos, pow_mono}
use Rattle.std.specs.Int.{div_ceil}
use Rattle.lists.specs.Below.{Below}
use Rattle.lists.proofs.Bits.{one_shifted}
use Rattle.digits.proofs.Laws.{digit_modulus}
use Rattle.rules.specs.Digits.{to_int, base2b}
use Rattle.rules.specs.Places.{Bytes}
use Rattle.rules.specs.Calls.{Family}
use Rattle.rules.specs.Seal.{digest_of}
use Rattle.rules.specs.Sets.{Row, Legal, bytes_for}
use Rattle.rules.specs.Digest.{Pointed, last_bits, pointed}
use Rattle.rules.proofs.DigestLaws.{Inside, points_inside}
use Rattle.rules.proofs.ReadLaws.{value_fits}

-- ---- The last bits of a number

-- Fewer than 64 bits are left by the remainder, and of 64 or more none of eight bytes is lost.
pub bits_cut : (bits v : ℕ) (X : Bytes) → bits < 64 → v ≡ to_int X → v % (1 * 2 ^ bits % 2 ^ 64) ≡ last_bits bits X
unfolding last_bits
bits_cut bits v X h e = rw (one_shifted bits 64 h, e)

pub bits_kept : (bits v : ℕ) (X : Bytes) → 64 ≤ bits → Below 256 X → length X ≤ 8 → v ≡ to_int X → v ≡ last_bits bits X
unfolding last_bits
bits_kept bits v X h b l e =
    e ∙ sym (mod-eq_of_lt (lt_of_lt_of_le (value_fits 8 64 X b (omega arith)) (pow_mono h)))

-- How `last_bits` leaves them, for the tactics.
pub ruleset cut = (digit_modulus, bits_cut, bits_kept)

-- The last 16 bits or fewer fit a word.
pub bits_fit : (bits : ℕ) (X : Bytes) → bits ≤ 16 → last_bits bits X < 2 ^ 32
unfolding last_bits
bits_fit bits X h = lt_of_lt_of_le (mod-lt _ (pow_pos bits)) (pow_mono {j = 32} (omega arith))

-- ---- The three pieces

-- A layer's height is at most that of all.
pub height_le : (d h h' : ℕ) → 0 < d → h ≡ d * h' → h' ≤ h
height_le zero h h' p e = absurd (omega arith)
height_le (suc d) h h' p e = omega (arith, suc-mul d h')

-- The first f bytes, the next t and the rest are what the rules read.
module _ (r : Row) (D : Bytes) (legal : Legal r) (long : length D ≡ r.m) (f t : ℕ) (ef : f ≡ div_ceil (r.k * r.a) 8)
    (et : t ≡ div_ceil (r.h - r.h') 8) where
  forest_long : f ≡ bytes_for (r.k * r.a)
  forest_long = omega arith

  tree_long : t ≡ bytes_for (r.h - r.h')
  tree_long = omega arith

  leaf_rest : take (bytes_for r.h') (drop (f + t) D) ≡ drop t (drop f D)
  leaf_rest =
      take_all (bytes_for r.h') (drop (f + t) D)
      (omega (arith, length-drop (f + t) D, legal.digest_long, forest_long, tree_long))
      ∙ sym (drop-drop t f D)

  pub pointed_at : {F R T L is : List ℕ} {tree leaf : ℕ} (count : ℕ) → F ≡ take f D → R ≡ drop f D → T ≡ take t R
      → L ≡ drop t R → count ≡ r.k → is ≡ base2b F r.a count → tree ≡ last_bits (r.h - r.h') T
      → leaf ≡ last_bits r.h' L
      → ◌≡◌ {A = Pointed} (record { indices = is; tree = tree; leaf = leaf }) (pointed r D)
  unfolding pointed
  pointed_at count eF eR eT eL e ei et' el =
      rw (ei, et', el, eT, eL, eR, eF, e, ← leaf_rest, forest_long, tree_long)

-- The digest of a framed message M, and where it points.
pub aimed : (r : Row) (f : Family r.n r.m) (R seed root M : Bytes) {D : Bytes} {p : Pointed}
    → D ≡ f.h_msg R seed root M → p ≡ pointed r D → p ≡ pointed r (digest_of r f R seed root M).result
unfolding digest_of
aimed r f R seed root M e g = g ∙ ap (pointed r) e

-- The place lies within the key.
pub in_key : (r : Row) → Legal r → (D : Bytes) {p : Pointed} → p ≡ pointed r D → Inside r p
in_key r legal D e = rw e (points_inside r legal D)
