-- The parts of a seal of a ready row have the sizes that walking and writing need.
-- Assumes nothing.
use mathlib.Core.Path.{◌≡◌}
use Prim.Native.Nat.{ℕ, ◌*◌, ◌%◌, ◌^◌}
use native.Mathlib.Omega.{arith}
use Rattle.lists.proofs.Bits.{one_shifted}
use Rattle.rules.specs.Sets.{Row}
use Rattle.rows.specs.Shapes.{Wood, Stack}
use Rattle.rows.specs.Ready.{Ready}
use Rattle.rows.specs.Shapes.{forest_size, layer_size}
use Rattle.rows.proofs.SizeLaws.{forest_leaves, layer_leaves}

module _ (r : Row) (ready : Ready r) where
  pub wood : (trees sig : ℕ) → trees ≡ r.k → sig ≡ forest_size r → Wood r.n r.a trees sig
  wood trees sig e f = record {
    small = ready.fit.values;
    few = omega (arith, e, ready.fit.trees);
    low = omega (arith, ready.fit.digits);
    leaves = rw e (omega (arith, forest_leaves r ready));
    sig_long = rw e f;
  }

  -- The number of leaves of a layer's tree, as code works it out.
  pub leaves_are : 1 * 2 ^ r.h' % 2 ^ 64 ≡ 2 ^ r.h'
  leaves_are = one_shifted r.h' 64 (omega (arith, ready.fit.heights))

  pub stack : (sig : ℕ) → sig ≡ r.d * layer_size r → Stack r.n r.h' (1 * 2 ^ r.h' % 2 ^ 64) r.d sig
  stack sig e = record {
    small = ready.fit.values;
    leaves = leaves_are;
    counted = rw leaves_are (omega (arith, layer_leaves r ready));
    some = ready.legal.some_layer;
    few = omega (arith, ready.fit.layers);
    sig_long = e;
  }
