-- What a listing finds is a timetable.
use Rattle.plan_num.proofs.Common.{◌≡◌, ◌∙◌, ℕ, zero, suc, ◌+◌, ◌<◌, ◌==◌, nat_eq, nat_lt, Bool}
use Rattle.plan_num.proofs.Common.{true, false, not, ◌&&◌, ◌||◌, List, [], ◌∷◌, get_or, length}
use Rattle.plan_num.proofs.Common.{position, All, filter, slice_index_or, Option, Some, None}
use Rattle.plan_num.proofs.Common.{is_some, refl, ap, sym, subst, arith, AllByRecursion, list_all}
use Rattle.plan_num.proofs.Common.{list_any, and_parts, eq-eqb, eqb-true, ltb-true, ltb-false}
use Rattle.plan_num.proofs.Common.{or_parts, or_right, get_or_default, length-map, length-set}
use Rattle.plan_num.proofs.Common.{AllPass-from_list_all, Any-from_list_any}
use Rattle.pesp.specs.declared.activity.PespActivity.{PespActivity}
use Rattle.pesp.specs.Timetables.{IsActivity, IsKept, IsProblem, IsTimetable, Problem, keeps}
use Rattle.pesp.specs.Timetables.{time_of}
use Rattle.pesp.proofs.FirstBroken.{none_passes}
use Rattle.pesp.proofs.Keeping.{test_tells}
use Rattle.pesp.specs.Listings.{Listing, branches, first_times, has_several, in_turn, is_empty}
use Rattle.pesp.specs.Listings.{listing_from, with_time}
use Rattle.pesp.specs.TimeSets.{has_partner, has_partners, has_second, left_to, reduced}
use Rattle.pesp.proofs.ListedTimes.{several_at}
use Rattle.pesp.proofs.RoundsKeep.{is_in}
use Rattle.pesp.proofs.ShrinkingSets.{reduced_each, reduced_length, reduced_partnered}
use Rattle.plan_num.proofs.Tests.{only_true}

-- times of a period
abbrev pub are_below : ℕ → List ℕ → Bool
are_below period times = list_all (λ time. nat_lt time period) times

abbrev pub AreBelow : ℕ → List (List ℕ) → Type 0
AreBelow period sets = AllByRecursion (λ times. are_below period times ≡ true) sets

pub filter_below : (period : ℕ) (test : ℕ → Bool) (xs : List ℕ) → are_below period xs ≡ true
    → are_below period (filter test xs) ≡ true
filter_below period test [] h = refl
filter_below period test (x ∷ xs) h =
    let parts = and_parts (nat_lt x period) (are_below period xs) h in grind (
      arith,
      filter_below
          period test xs parts.1,
    )

below_of : (period x : ℕ) (xs : List ℕ) → is_in x xs ≡ true → are_below period xs ≡ true
    → nat_lt x period ≡ true
below_of period x xs is h = grind (
  arith,
  Any-from_list_any,
  nat_eq,
  nat_lt,
  eqb-true,
  AllPass-from_list_all,
)

settled_below : (period : ℕ) (sets : List (List ℕ)) (event time : ℕ) → nat_lt time period ≡ true
    → AreBelow period sets → AreBelow period (with_time sets event time)
settled_below period [] event time h each = tt
settled_below period (set ∷ sets) zero time h each = (ap (λ b. b && true) h, each.1)
settled_below period (set ∷ sets) (suc event) time h each =
    (each.0, settled_below period sets event time h each.1)

set_below : (period : ℕ) (sets : List (List ℕ)) (event : ℕ) → event < length sets → AreBelow period sets
    → are_below period (left_to sets event) ≡ true
set_below period [] event inside each = absurd (omega (arith, inside))
set_below period (set ∷ sets) zero inside each = each.0
set_below period (set ∷ sets) (suc event) inside each =
    set_below period sets event (omega (arith, inside)) each.1

-- what is found for some is found for one of them
turn_found : (visit : ℕ → Listing) (xs : List ℕ) (times : List ℕ) (Q : Type 0)
    → ((x : ℕ) → is_in x xs ≡ true → (visit x).found ≡ Some times → Q)
    → (in_turn visit xs).found ≡ Some times → Q
unfolding in_turn
turn_found visit [] times Q one found = absurd (cc)
turn_found visit (y ∷ xs) times Q one found =
    by (is_some (visit y).found) (one y (ap (λ b. b || is_in y xs) (eq-eqb y y refl)))
    (turn_found visit xs times Q (λ x is. one x (or_right (nat_eq x y) (is_in x xs) is))) found
  where
    by : (b : Bool) → ((visit y).found ≡ Some times → Q) → ((in_turn visit xs).found ≡ Some times → Q)
        → (elim b as (λ _. Listing) [
          | true ↦ visit y
          | false ↦ record { entries = (visit y).entries + (in_turn visit xs).entries; found = (in_turn visit xs).found }
        ]).found ≡ Some times → Q
    by true here rest found = here found
    by false here rest found = rest found

-- ---- sets of one time each

single : (set : List ℕ) → has_several set ≡ false → is_empty set ≡ false
    → set ≡ slice_index_or set 0 0 ∷ []
single [] few some = absurd (cc)
single (x ∷ []) few some = refl
single (x ∷ y ∷ set) few some = absurd (omega (arith, ltb-false 1 (length (x ∷ y ∷ set)) few))

module _ (sets : List (List ℕ)) (few : All (λ set. has_several set ≡ false) sets)
    (some : list_any is_empty sets ≡ false) where
  one_time : (event : ℕ) → event < length sets → left_to sets event ≡ time_of (first_times sets) event ∷ []
  one_time event inside =
      single (left_to sets event) (few event [] inside) (none_at is_empty sets event inside some)
      ∙ ap (λ time. time ∷ []) (sym (first_at sets event inside))
    where
      first_at : (sets : List (List ℕ)) (event : ℕ) → event < length sets
          → time_of (first_times sets) event ≡ slice_index_or (left_to sets event) 0 0
      first_at [] event inside = absurd (omega (arith, inside))
      first_at (set ∷ sets) zero inside = refl
      first_at (set ∷ sets) (suc event) inside = first_at sets event (omega (arith, inside))

      none_at : (test : List ℕ → Bool) (sets : List (List ℕ)) (event : ℕ) → event < length sets
          → list_any test sets ≡ false → test (left_to sets event) ≡ false
      none_at test [] event inside none = absurd (omega (arith, inside))
      none_at test (set ∷ sets) zero inside none = (or_parts (test set) (list_any test sets) none).0
      none_at test (set ∷ sets) (suc event) inside none =
          none_at test sets event (omega (arith, inside)) (or_parts (test set) (list_any test sets) none).1

  first_below : (period event : ℕ) → event < length sets → AreBelow period sets
      → time_of (first_times sets) event < period
  first_below period event inside each =
      let own = subst (λ set. are_below period set ≡ true) (one_time event inside) (set_below period sets event inside each) in
      ltb-true (time_of (first_times sets) event) period (and_parts _ true own).0

module _ (problem : Problem) (sound : IsProblem problem) where
  module _ (before : List (List ℕ)) (count : length before ≡ problem.events)
      (each : AreBelow problem.period before) where
    abbrev left : List (List ℕ)
    left = reduced problem before

    left_count : length left ≡ problem.events
    left_count = reduced_length problem before ∙ count

    left_below : AreBelow problem.period left
    left_below = reduced_each problem before (λ set. are_below problem.period set ≡ true)
        (filter_below problem.period) each

    module _ (few : All (λ set. has_several set ≡ false) left) (some : list_any is_empty left ≡ false) where
      abbrev times : List ℕ
      times = first_times left

      size : length times ≡ problem.events
      size = length-map left (λ (times : List ℕ). slice_index_or times 0 0) ∙ left_count

      below : All (λ time. time < problem.period) times
      below event d inside =
          subst (λ time. time < problem.period) (get_or_default times event 0 d inside)
          (first_below left few some problem.period event (omega (arith, inside, size, left_count)) left_below)

      activity_kept : (k : ℕ) (d : PespActivity) → k < length problem.activities
          → IsKept problem.period times (get_or problem.activities k d)
      activity_kept k d inside =
          let activity = get_or problem.activities k d in
          let own : IsActivity problem.events activity = sound.sound k d inside in
          let from_in : activity.from < length left = omega (arith, own.from, left_count) in
          let to_in : activity.to < length left = omega (arith, own.to, left_count) in
          let time = time_of times activity.from in
          let partnered = subst (λ set. list_all (has_partners problem left activity.from) set ≡ true)
          (one_time left few some activity.from from_in) (reduced_partnered problem before activity.from from_in) in
          let all = (and_parts (has_partners problem left activity.from time) true partnered).0 in
          let partner = AllPass-from_list_all (has_partner problem.period left activity.from time) problem.activities all k d inside in
          let first = (and_parts (not (activity.from == activity.from) || has_second problem.period left time activity) _ partner).0 in
          let second = ap (λ b. not b || has_second problem.period left time activity)
          (sym (eq-eqb activity.from activity.from refl)) ∙ first in
          let kept = subst (λ set. list_any (keeps problem.period activity time) set ≡ true)
          (one_time left few some activity.to to_in) second in
          (test_tells problem.period times below activity
          (subst (λ events. IsActivity events activity) (sym size) own)).0
          (only_true (keeps problem.period activity time (time_of times activity.to)) kept)

      is_timetable : IsTimetable problem times
      is_timetable = record { each = size; within = below; kept = activity_kept }

  pub found_is : (more : ℕ) (sets : List (List ℕ)) → length sets ≡ problem.events
      → AreBelow problem.period sets → (times : List ℕ)
      → (listing_from more problem sets).found ≡ Some times → IsTimetable problem times
  unfolding listing_from
  found_is zero sets count each times found = absurd (cc)
  found_is (suc more) sets count each times found =
      by (list_any is_empty left) refl
      (λ event time. found_is more (with_time left event time)
      (length-set left event (time ∷ []) ∙ left_count sets count each)) found
    where
      left : List (List ℕ)
      left = reduced problem sets

      visit : ℕ → ℕ → Listing
      visit event time = listing_from more problem (with_time left event time)

      Rest : Type 0
      Rest = (event time : ℕ) → AreBelow problem.period (with_time left event time) → (times : List ℕ)
          → (visit event time).found ≡ Some times → IsTimetable problem times

      by_event : list_any is_empty left ≡ false → (o : Option ℕ) → position has_several left ≡ o → Rest
          → (branches left visit o).found ≡ Some times → IsTimetable problem times
      by_event some None few rest found =
          let same : first_times left ≡ times = cc in
          subst (IsTimetable problem) same
          (is_timetable sets count each (none_passes has_several left few) some)
      by_event some (Some event) is rest found =
          let at = several_at left event is in
          let below = left_below sets count each in
          turn_found (visit event) (left_to left event) times (IsTimetable problem times)
          (λ time own found. rest event time
          (settled_below problem.period left event time
          (below_of problem.period time (left_to left event) own (set_below problem.period left event at.0 below))
          below) times found) found

      by : (b : Bool) → list_any is_empty left ≡ b → Rest
          → (elim b as (λ _. Listing) [
            | true ↦ record { entries = 1; found = None }
            | false ↦ branches left visit (position has_several left)
          ]).found ≡ Some times → IsTimetable problem times
      by true dead rest found = absurd (cc)
      by false some rest found = by_event some (position has_several left) refl rest found
