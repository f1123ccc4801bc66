-- `address_bytes` writes each word's four bytes, most significant first, and the eight bytes of a tree number below
-- four zeros.
-- Assumes nothing.
use Prim.Native.Nat.{◌<◌, ◌^◌}
use native.Mathlib.Omega.{arith}
use Rattle.rules.specs.Places.{words}
use Rattle.addresses.proofs.AddressLaws.{word_bytes, tree_bytes_lem}
use Rattle.addresses.proofs.address_bytes.Goals as goal

pub returns : goal.returns
unfolding words
returns c =
    let h : c.args.a.tree < 2 ^ 64 = omega arith in
    rw (
      c.copy_from_slice.ensures.after,
      c.to_be_bytes.ensures,
      c.copy_from_slice-2.ensures.after,
      c.to_be_bytes-2.ensures,
      c.copy_from_slice-3.ensures.after,
      c.to_be_bytes-3.ensures,
      c.copy_from_slice-4.ensures.after,
      c.to_be_bytes-4.ensures,
      c.copy_from_slice-5.ensures.after,
      c.to_be_bytes-5.ensures,
      c.copy_from_slice-6.ensures.after,
      c.to_be_bytes-6.ensures,
    ) (simp (word_bytes, tree_bytes_lem))
