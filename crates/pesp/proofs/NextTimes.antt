-- The times that are left to an event, one after the other.
use Rattle.plan_num.proofs.Common.{◌≡◌, ℕ, ◌+◌, ◌-◌, ◌<◌, ◌≤◌, Bool, true, false, List, [], ◌∷◌}
use Rattle.plan_num.proofs.Common.{cond, filter, is_some, not, Option, Some, None, ap, arith, sym}
use Rattle.plan_num.proofs.Common.{range_with_len, false≢true}
use Rattle.pesp.specs.Listings.{is_empty}
use Rattle.pesp.specs.Marks.{IsNext, Marks, is_left, times_from}

range_none : (from end : ℕ) → end ≤ from → range_with_len from (end - from) ≡ []
range_none from end none =
    let zero_is : end - from ≡ 0 = omega (arith, none) in ap (range_with_len from) zero_is

kept_first : (test : ℕ → Bool) (x : ℕ) (xs : List ℕ) → test x ≡ true
    → filter test (x ∷ xs) ≡ x ∷ filter test xs
kept_first test x xs is = ap (λ b. cond b (x ∷ filter test xs) (filter test xs)) is

pub next_one : (sets : Marks) (event time : ℕ) → time < sets.columns
    → is_left sets event time ≡ true
    → times_from sets event time ≡ time ∷ times_from sets event (time + 1)
next_one sets event time some left = grind arith

pub no_more : (sets : Marks) (event time : ℕ) → sets.columns ≤ time
    → times_from sets event time ≡ []
no_more sets event time none =
    ap (filter (is_left sets event)) (range_none time sets.columns none)

-- no time is left where there is no first one
pub empty_by_next : (sets : Marks) (event : ℕ) (found : Option ℕ) (none_is : Bool)
    → is_some found ≡ not none_is → IsNext sets event 0 found
    → none_is ≡ is_empty (times_from sets event 0)
empty_by_next sets event None true is none = sym (ap is_empty none)
empty_by_next sets event None false is none = absurd (false≢true is)
empty_by_next sets event (Some time) true is next = absurd (false≢true (sym is))
empty_by_next sets event (Some time) false is next = grind arith
