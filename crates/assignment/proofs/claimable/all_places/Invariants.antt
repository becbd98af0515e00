-- The places so far are set.
use Rattle.plan_num.proofs.Common.{ℕ, ◌≡◌, ◌<◌, true}
use Rattle.bit_rows.specs.Bits.{has}
use Rattle.assignment.proofs.claimable.all_places.Given as goal

abbrev pub invariant-loop-place : goal.invariant-loop-place
invariant-loop-place l = record {
  rows : l.places.rows ≡ 1;
  columns : l.places.columns ≡ l.count;
  all : (place : ℕ) → place < l.place → has l.places 0 place ≡ true;
}
