-- The order of walks that go on.
use Rattle.std.specs.Prelude.{ℕ}
use Rattle.std.specs.Ordering.{nat_cmp, ordering_then}
use Rattle.std.specs.declared.cmp.Ordering.{Ordering}
use Rattle.std.specs.declared.cmp.Reverse.{Reverse}

-- pairs of a sum and a stop in the order in which they are taken out: the greatest of them is the
-- one of the least sum
abbrev pub by_sum : Reverse (ℕ × ℕ) → Reverse (ℕ × ℕ) → Ordering
by_sum x y = ordering_then (nat_cmp y.0.0 x.0.0) (nat_cmp y.0.1 x.0.1)
