-- How many calls of a kind a list has, what a check walks, and what that costs at least and at most.
-- Assumes nothing.
use Rattle.std.specs.Prelude.{cond, List, [], ◌∷◌, ℕ, zero, suc, ◌+◌, ◌*◌, ◌/◌, eqb}
use Rattle.rules.specs.Places.{Bytes}
use Rattle.rules.specs.Calls.{F, H, T, PRF, Kind, of, randomizer, digest, Call, Family}
use Rattle.rules.specs.Chains.{steps, checksum, chain_digits}
use Rattle.rules.specs.Sets.{Row}
use Rattle.rules.specs.Digest.{Pointed, pointed}
use Rattle.rules.specs.Keys.{piece}
use Rattle.rules.specs.Seal.{digest_of, part}
use Rattle.rules.specs.Check.{checked_value}

-- A number for each kind, to tell them apart.
abbrev pub code : Kind → ℕ
code (of F) = 0
code (of H) = 1
code (of T) = 2
code (of PRF) = 3
code randomizer = 4
code digest = 5

-- 1 where the two kinds are one, and else 0.
unfoldable pub is : Kind → Kind → ℕ
is j k = cond (eqb (code j) (code k)) 1 0

unfoldable pub count : Kind → List Call → ℕ
count k [] = 0
count k (c ∷ cs) = is k c.kind + count k cs

-- What one value costs by its checksum c: 15·(c div 16 + c div 256 + 3).
abbrev pub cost : (c : ℕ) → ℕ
cost c = 15 * (c / 16 + c / 256 + 3)

module _ (r : Row) (f : Family r.n r.m) where
  -- The sum of (15 - digit) over the chains of the first layers.
  unfoldable pub steps_of : (pk_seed : Bytes) (at : Pointed) (seal : Bytes) (layers : ℕ) → ℕ
  steps_of pk_seed at seal zero = 0
  steps_of pk_seed at seal (suc j) =
      steps_of pk_seed at seal j + steps (chain_digits r.n (checked_value r f pk_seed at seal j))

  -- The F calls of a check by the paper: k, and the sum over all layers and chains.
  unfoldable pub f_calls : (public M seal : Bytes) → ℕ
  f_calls public M seal =
      let D : Bytes = (digest_of r f (part r 0 seal) (piece r.n 0 public) (piece r.n 1 public) M).result in
      r.k + steps_of (piece r.n 0 public) (pointed r D) seal r.d

  -- What the values of the first layers cost, each "15·(c div 16 + c div 256 + 3), c its checksum".
  unfoldable pub costs_of : (pk_seed : Bytes) (at : Pointed) (seal : Bytes) (layers : ℕ) → ℕ
  costs_of pk_seed at seal zero = 0
  costs_of pk_seed at seal (suc j) =
      costs_of pk_seed at seal j + cost (checksum r.n (checked_value r f pk_seed at seal j))

  -- The F calls of a check by the checksums of the values that it walks from.
  unfoldable pub calls_by_cost : (public M seal : Bytes) → ℕ
  calls_by_cost public M seal =
      let D : Bytes = (digest_of r f (part r 0 seal) (piece r.n 0 public) (piece r.n 1 public) M).result in
      r.k + costs_of (piece r.n 0 public) (pointed r D) seal r.d

-- The least and the greatest number of F calls of a check, for each row.
unfoldable pub bounds : List Row → List ℕ
bounds [] = []
bounds (r ∷ rs) = (r.k + 45 * r.d) ∷ (r.k + cost (30 * r.n) * r.d) ∷ bounds rs
