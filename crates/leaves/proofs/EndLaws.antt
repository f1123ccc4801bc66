-- The key's chain ends are what is shown for fifteens.
-- Assumes nothing.
use mathlib.Core.Path.{◌≡◌, refl, sym, ap, ◌∙◌}
use mathlib.Core.List.{◌++◌}
use Prim.Native.Nat.{ℕ, zero, suc}
use lib.ListN.{replicate}
use Rattle.rules.specs.Places.{Bytes}
use Rattle.rules.specs.Calls.{Hashes}
use Rattle.rules.specs.Chains.{ends, shown, own_chain}
use Rattle.rules.proofs.ChainLaws.{shown_cons, ends_suc}

module _ (w : Hashes) (l t p : ℕ) (sk : Bytes) where
  -- Every chain at position 15 is at its end.
  pub shown_ends : (c k : ℕ) → (shown w l t p sk c (replicate k 15)).result ≡ (ends w l t p sk c k).result
  unfolding shown ends
  shown_ends c zero = refl
  shown_ends c (suc k) =
      shown_cons w l t p sk c 15 (replicate k 15)
      ∙ ap (λ (x : Bytes). own_chain w l t p sk c 15 ++ x) (shown_ends (suc c) k)
      ∙ sym (ends_suc w l t p sk c k)
