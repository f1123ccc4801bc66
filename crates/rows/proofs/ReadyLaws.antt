-- Every row of the table is ready: one test, worked out over the whole table, and one law that turns it into `Fits`.
-- Assumes nothing.
use mathlib.Core.Path.{◌≡◌}
use mathlib.Core.Option.{some}
use Prim.Native.Nat.{ℕ, ◌-◌}
use lib.Dec.{T, leb, leb→le}
use Rattle.rules.specs.Sets.{Row, rows, every, row_of}
use Rattle.rules.proofs.SetLaws.{left_half, right_half, row_of_passes, row_of_legal}
use Rattle.rows.specs.Ready.{Fits, fits, Ready}

fitting : (r : Row) → T (fits r) → Fits r
unfolding fits
fitting r t =
    let t1 = right_half (leb r.n 32) _ t in
    let t2 = right_half (leb r.k 35) _ t1 in
    let t3 = right_half (leb r.a 16) _ t2 in
    let t4 = right_half (leb r.h' 16) _ t3 in
    let t5 = right_half (leb r.d 64) _ t4 in
    record {
      values = leb→le _ _ (left_half (leb r.n 32) _ t);
      trees = leb→le _ _ (left_half (leb r.k 35) _ t1);
      digits = leb→le _ _ (left_half (leb r.a 16) _ t2);
      heights = leb→le _ _ (left_half (leb r.h' 16) _ t3);
      layers = leb→le _ _ (left_half (leb r.d 64) _ t4);
      tree_bits = leb→le _ _ (left_half (leb (r.h - r.h') 64) _ t5);
      digests = leb→le _ _ (right_half (leb (r.h - r.h') 64) _ t5);
    }

every_row : T (every fits rows)
unfolding rows every fits
every_row = tt

-- A row that is found is ready.
pub row_of_ready : (number : ℕ) (r : Row) → row_of number ≡ some r → Ready r
row_of_ready number r e = record {
  legal = (row_of_legal number r e).1;
  fit = fitting r (row_of_passes fits every_row number r e).1;
}
