-- The sets of events, one after the other.
use Rattle.plan_num.proofs.Common.{◌≡◌, ◌∙◌, ℕ, position, zero, suc, ◌+◌, ◌<◌, ◌≤◌, nat_lt, true}
use Rattle.plan_num.proofs.Common.{false, cond, List, [], ◌∷◌, ◌++◌, map, get_or, length}
use Rattle.plan_num.proofs.Common.{slice_index_or, Some, None, refl, ap, sym, arith, range_with_len}
use Rattle.plan_num.proofs.Common.{le-ltb, lt-ltb, position_or_len_is, get_or-map-range_with_len}
use Rattle.plan_num.proofs.Common.{length-map-range_with_len, map-range_with_len_more}
use Rattle.pesp.specs.Listings.{first_times, has_several}
use Rattle.pesp.specs.Marks.{IsSettled, Marks, sets_of, times_from}

-- the set of an event, and how many sets there are
pub set_at : (sets : Marks) (event : ℕ) → event < sets.rows
    → get_or (sets_of sets) event [] ≡ times_from sets event 0
set_at sets event low =
    get_or-map-range_with_len (λ event. times_from sets event 0) 0 sets.rows event event [] low
    (omega arith)

pub sets_size : (sets : Marks) → length (sets_of sets) ≡ sets.rows
sets_size sets = length-map-range_with_len (λ event. times_from sets event 0) 0 sets.rows

-- ---- the first event to which several times are left

pub settled_more : (sets : Marks) (event : ℕ) → IsSettled sets event
    → has_several (times_from sets event 0) ≡ false → IsSettled sets (event + 1)
settled_more sets event so none other low = grind arith

first_at : (sets : Marks) (event : ℕ) → event ≤ sets.rows → IsSettled sets event
    → (event < sets.rows → has_several (times_from sets event 0) ≡ true)
    → position has_several (sets_of sets) ≡ cond (nat_lt event sets.rows) (Some event) None
first_at sets event low so is =
    let size = sets_size sets in
    let at = position_or_len_is has_several (sets_of sets) event [] (omega (arith, low, size))
    (λ k less. ap has_several (set_at sets k (omega (arith, less, low))) ∙ so k less)
    (λ inside. ap has_several (set_at sets event (omega (arith, inside, size)))
    ∙ is (omega (arith, inside, size))) in
    λ i. cond (nat_lt (at i) (size i)) (Some (at i)) None

pub open_here : (sets : Marks) (event : ℕ) → event < sets.rows → IsSettled sets event
    → has_several (times_from sets event 0) ≡ true
    → Some event ≡ position has_several (sets_of sets)
open_here sets event low so is =
    sym (first_at sets event (omega (arith, low)) so (λ _. is)
    ∙ ap (λ b. cond b (Some event) None) (lt-ltb event sets.rows low))

pub none_open : (sets : Marks) (event : ℕ) → sets.rows ≤ event → IsSettled sets event
    → None ≡ position has_several (sets_of sets)
none_open sets event all so =
    sym (first_at sets sets.rows (omega arith) (λ k low. so k (omega (arith, low, all)))
    (λ low. absurd (omega (arith, low)))
    ∙ ap (λ b. cond b (Some sets.rows) None) (le-ltb sets.rows sets.rows (omega arith)))

-- ---- the first time of each

pub one_time_more : (sets : Marks) (event : ℕ) (times more : List ℕ) (time : ℕ)
    → times ≡ map (λ event. slice_index_or (times_from sets event 0) 0 0) (range_with_len 0 event)
    → time ≡ slice_index_or (times_from sets event 0) 0 0 → more ≡ times ++ time ∷ []
    → more ≡ map (λ event. slice_index_or (times_from sets event 0) 0 0) (range_with_len 0 (event + 1))
one_time_more sets event times more time so last is =
    is ∙ (λ i. so i ++ last i ∷ [])
    ∙ sym (map-range_with_len_more (λ event. slice_index_or (times_from sets event 0) 0 0) 0 event event
    (omega arith))

first_of_each : (sets : Marks) (from n : ℕ)
    → map (λ event. slice_index_or (times_from sets event 0) 0 0) (range_with_len from n)
    ≡ first_times (map (λ event. times_from sets event 0) (range_with_len from n))
first_of_each sets from zero = refl
first_of_each sets from (suc n) =
    ap (λ times. slice_index_or (times_from sets from 0) 0 0 ∷ times) (first_of_each sets (from + 1) n)

pub times_are_first : (sets : Marks) (event : ℕ) (times : List ℕ)
    → times ≡ map (λ event. slice_index_or (times_from sets event 0) 0 0) (range_with_len 0 event)
    → event ≡ sets.rows → times ≡ first_times (sets_of sets)
times_are_first sets event times so all =
    so ∙ ap (λ n. map (λ event. slice_index_or (times_from sets event 0) 0 0) (range_with_len 0 n)) all
    ∙ first_of_each sets 0 sets.rows
