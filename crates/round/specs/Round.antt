-- A round: what key making, sealing with the key made and checking under it promise together.
-- Assumes nothing.
use Rattle.std.specs.Prelude.{◌≡◌}
use Rattle.std.proofs.Math.Option.{Option}
use Rattle.rules.specs.Places.{Bytes}
use Rattle.rules.specs.Sets.{Row}
use Rattle.answers.specs.Answers.{number}
use Rattle.making.specs.Keys.{KeysMade}
use Rattle.sealing.specs.Seals.{Sealed}
use Rattle.checking.specs.Checks.{Checked}
use Rattle.round.specs.declared.Round.{Round}

-- Under the row of the set, if it has one: three seeds, a message, a randomizer input and three buffers as they were
-- lent; then the answers, and the buffers afterwards.
pub record Rounded (row : Option Row) (sk_seed sk_prf pk_seed message random public secret out : Bytes) (r : Round)
    (public-after secret-after out-after : Bytes) : Type 0 where
  pub keys : KeysMade row sk_seed sk_prf pk_seed public secret r.made public-after secret-after
  pub seal : Sealed row secret-after message random out r.sealed out-after
  pub check : Checked row public-after message out-after (record { answer = r.checked; calls = r.calls })
  pub accepted : number r.made ≡ 0 → number r.sealed ≡ 0 → number r.checked ≡ 0
