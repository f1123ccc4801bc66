-- The law of what a walk gives.
-- Assumes nothing.
use mathlib.Core.Path.{◌≡◌}
use Prim.Native.Nat.{ℕ}
use Rattle.rules.specs.Places.{Bytes}
use Rattle.rules.specs.Calls.{Run}
use Rattle.climbs.specs.declared.Walked.{Walked}
use Rattle.climbs.specs.Leads.{Leads}

-- What leads to a run leads to the same run by another name.
pub leads_by : {n : ℕ} {run other : Run Bytes} {w : Walked} → run ≡ other → Leads n run w → Leads n other w
leads_by e h = rw e at h
