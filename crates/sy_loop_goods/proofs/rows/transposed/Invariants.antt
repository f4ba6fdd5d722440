use Rattle.std.proofs.Common.{◌≡◌, ◌<◌, ℕ, [], length, slice_index_or}
use Rattle.sy_loop_goods.specs.Columns.{row_from}
use Rattle.sy_loop_goods.proofs.rows.transposed.Given as goal

abbrev pub invariant-loop-place : goal.invariant-loop-place
invariant-loop-place l = record {
  many : length l.rows ≡ l.place;
  rows : (k : ℕ) → k < l.place → slice_index_or l.rows k [] ≡ row_from l.columns k;
}
