-- What a leaf is worked out from.
-- Assumes nothing.
use Rattle.std.specs.Prelude.{◌≡◌, ℕ, ◌*◌, ◌≤◌}
use Rattle.rules.specs.Chains.{chains}
use Rattle.calls.specs.declared.Kit.{Kit}

-- All chains' values, and a value of n bytes.
pub record From (kit : Kit) (sig m : ℕ) : Type 0 where
  pub small : kit.n ≤ 32
  pub sig_long : sig ≡ chains kit.n * kit.n
  pub value_long : m ≡ kit.n
