-- What a walk gives.
-- Assumes nothing.
use Rattle.std.specs.Prelude.{◌≡◌, ℕ, length, take}
use Rattle.rules.specs.Places.{Bytes}
use Rattle.rules.specs.Calls.{F, of, Run}
use Rattle.counts.specs.Counts.{count}
use Rattle.climbs.specs.declared.Walked.{Walked}

-- In its first n bytes the value that the run of the rules comes to, and as many F calls as that run makes.
pub record Leads (n : ℕ) (run : Run Bytes) (w : Walked) : Type 0 where
  pub value_is : take n w.value ≡ run.result
  pub counted : w.calls ≡ count (of F) run.calls
  pub value_long : length w.value ≡ 32
