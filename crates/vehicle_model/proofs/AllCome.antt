-- Trips that have come, one after the other.
use Rattle.plan_num.proofs.Common.{◌≡◌, ℕ, suc, ◌+◌, ◌-◌, ◌<◌, Bool, true, arith, list_all}
use Rattle.plan_num.proofs.Common.{range_with_len}

-- where the first of some numbers passes, all pass where the rest does
pub come_more : (p : ℕ → Bool) (i n : ℕ) (all : Bool) → i < n → p i ≡ true
    → all ≡ list_all p (range_with_len i (n - i)) → all ≡ list_all p (range_with_len (i + 1) (n - (i + 1)))
come_more p i n all within passes is =
    let left : n - i ≡ suc (n - (i + 1)) = omega arith in grind arith
