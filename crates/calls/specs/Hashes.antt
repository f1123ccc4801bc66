-- The hash family of the code: the rules' SHAKE family over SHAKE256.
-- Assumes nothing.
use Rattle.std.specs.Prelude.{ℕ}
use Rattle.shake.specs.Shake.{shake256}
use Rattle.shake.proofs.Laws.{length-shake256, below_shake256}
use Rattle.rules.specs.Places.{Bytes, IsBytes}
use Rattle.rules.specs.Calls.{Family, shake_family, Hashes, under}
use Rattle.rules.specs.Sets.{Row}
use Rattle.rows.specs.declared.Row
use Rattle.calls.specs.declared.Kit.{Kit}
use Rattle.calls.specs.declared.Hashes as code

pub shake256_sized : (x : Bytes) (n : ℕ) → IsBytes n (shake256 x n)
shake256_sized x n = record { long = length-shake256 x n; small = below_shake256 x n }

-- Section 11.1. It stays shut above this crate, so that nothing there depends on which hash it is.
unfoldable pub family : (n m : ℕ) → Family n m
family n m = shake_family shake256 shake256_sized n m

abbrev pub family_of : (kit : Kit) → Family kit.n kit.m
family_of kit = family kit.n kit.m

-- The functions that take an address, at a public seed.
abbrev pub hashes_of : Kit → (seed : Bytes) → Hashes
hashes_of kit seed = under (family_of kit) seed

-- The rules' functions of those of the code.
abbrev pub ruled_hashes : code.Hashes → Hashes
ruled_hashes h = hashes_of h.kit h.seed.now

-- The family of a row.
abbrev pub family_for : (r : Row) → Family r.n r.m
family_for r = family r.n r.m

-- The kit of a row of the code.
abbrev pub kit_for : Row.Row → Kit
kit_for row = record { n = row.n; m = row.m }
