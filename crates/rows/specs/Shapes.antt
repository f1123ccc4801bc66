-- What walking and writing need of the sizes that they are given, for values of n bytes.
-- Assumes nothing.
use Rattle.std.specs.Prelude.{◌≡◌, ℕ, ◌+◌, ◌*◌, ◌^◌, ◌≤◌, ◌<◌}
use Rattle.rules.specs.Chains.{chains}
use Rattle.rules.specs.Sets.{Row}

-- A forest of k trees of height a, at most 35, whose leaves are counted in 32 bits, and its part of a seal.
pub record Wood (n a k sig : ℕ) : Type 0 where
  pub small : n ≤ 32
  pub few : k ≤ 35
  pub low : a < 32
  pub leaves : k * 2 ^ a < 2 ^ 32
  pub sig_long : sig ≡ k * (n + a * n)

-- d layers of trees of height h', and their parts of a seal.
pub record Stack (n h' size d sig : ℕ) : Type 0 where
  pub small : n ≤ 32
  pub leaves : size ≡ 2 ^ h'
  pub counted : size ≤ 2 ^ 32
  pub some : 0 < d
  pub few : d < 2 ^ 16
  pub sig_long : sig ≡ d * (chains (n) * n + h' * n)

-- The bytes of the forest's part of a seal, and of a layer's, as code works them out.
abbrev pub forest_size : Row → ℕ
forest_size r = r.k * (r.n + r.a * r.n)

abbrev pub layer_size : Row → ℕ
layer_size r = chains r.n * r.n + r.h' * r.n
