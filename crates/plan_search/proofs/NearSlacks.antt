-- The slacks at all places, as they are kept.
use Rattle.plan_num.proofs.Common.{◌≡◌, ℕ, zero, suc, ◌<◌, ◌≤◌, nat_lt, List, length, get_or}
use Rattle.plan_num.proofs.Common.{slice_set, replicate, Option, None, refl, arith, get_or-set_same}
use Rattle.plan_num.proofs.Common.{get_or-set_other, lt-ltb, length-set, length-replicate}
use Rattle.link_plans.proofs.Common.{by_number}
use Rattle.plan_search.specs.declared.near.Near.{Near}
use Rattle.plan_search.specs.Growing.{is_nearer}
use Rattle.plan_search.specs.Nears.{slack_or_most, AreSlacks}

abbrev no_near : Option Near
no_near = None

nothing_at : (n k : ℕ) → get_or (replicate n no_near) k None ≡ None
nothing_at zero k = refl
nothing_at (suc n) zero = refl
nothing_at (suc n) (suc k) = nothing_at n k

most_at : (most n k : ℕ) → k < n → get_or (replicate n most) k 0 ≡ most
most_at most zero k within = absurd (omega (arith, within))
most_at most (suc n) zero within = refl
most_at most (suc n) (suc k) within = most_at most n k (omega (arith, within))

-- nothing is near
pub no_slacks : (n : ℕ) → AreSlacks (replicate n None) (replicate n 18446744073709551615)
no_slacks n = grind (arith, length-replicate, most_at, nothing_at)

-- one place is nearer
pub slacks_set : (nears : List (Option Near)) (slacks : List ℕ) (place : ℕ) (near : Option Near)
    → AreSlacks nears slacks → place < length nears
    → AreSlacks (slice_set nears place near) (slice_set slacks place (slack_or_most near))
slacks_set nears slacks place near are inside =
    grind (arith, length-set, by_number, get_or, slice_set, get_or-set_same, get_or-set_other)

-- a slack is less than that of the nearest one
pub nearer_by_slack : (nears : List (Option Near)) (slacks : List ℕ) (place slack : ℕ)
    → AreSlacks nears slacks → place < length nears → slack ≤ 2000000000000000000
    → nat_lt slack (get_or slacks place 0) ≡ is_nearer slack (get_or nears place None)
nearer_by_slack nears slacks place slack are inside small = grind (arith, nat_lt, get_or, lt-ltb)
