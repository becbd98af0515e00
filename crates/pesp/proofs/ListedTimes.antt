-- What a listing finds is a timetable, and it finds nothing only where there is none.
use Rattle.plan_num.proofs.Common.{◌≡◌, ◌∙◌, ℕ, zero, suc, ◌+◌, ◌<◌, nat_eq, Bool, true, false}
use Rattle.plan_num.proofs.Common.{◌||◌, List, [], ◌∷◌, length, position, Option, Some, None}
use Rattle.plan_num.proofs.Common.{is_some, refl, ap, arith, list_any, eq-eqb, eqb-true, ne_eqb}
use Rattle.plan_num.proofs.Common.{cases_Bool, position-Some}
use Rattle.pesp.specs.Timetables.{IsProblem, IsTimetable, Problem}
use Rattle.pesp.specs.Timetables.{time_of}
use Rattle.pesp.specs.Listings.{Listing, branches, has_several, in_turn, is_empty}
use Rattle.pesp.specs.Listings.{listing_from, several_in, with_time}
use Rattle.pesp.specs.TimeSets.{left_to, reduced}
use Rattle.pesp.proofs.RoundsKeep.{Holds, held_at, is_in, reduced_keeps}
use Rattle.pesp.proofs.ShrinkingSets.{reduced_several}

-- ---- something is found where a timetable is left

pub no_empty : (sets : List (List ℕ)) (times : List ℕ) → Holds sets times → list_any is_empty sets ≡ false
no_empty [] [] h = refl
no_empty [] (time ∷ times) h = absurd h
no_empty (set ∷ sets) [] h = absurd h
no_empty (set ∷ sets) (time ∷ times) h = ap (λ b. b || list_any is_empty sets) (some set h.0) ∙ no_empty sets times h.1
  where
    some : (set : List ℕ) → is_in time set ≡ true → is_empty set ≡ false
    some [] is = absurd (cc)
    some (x ∷ set) is = ne_eqb (length (x ∷ set)) 0 (λ none. absurd (omega (arith, none)))

-- what is found for one of some is found for all of them
turn_finds : (visit : ℕ → Listing) (x : ℕ) (xs : List ℕ) → is_in x xs ≡ true
    → is_some (visit x).found ≡ true → is_some (in_turn visit xs).found ≡ true
unfolding in_turn
turn_finds visit x [] is found = absurd (cc)
turn_finds visit x (y ∷ xs) is found =
    by (nat_eq x y) refl is (is_some (visit y).found) refl (λ is. turn_finds visit x xs is found)
  where
    by : (b : Bool) → nat_eq x y ≡ b → (b || is_in x xs) ≡ true → (c : Bool) → is_some (visit y).found ≡ c
        → (is_in x xs ≡ true → is_some (in_turn visit xs).found ≡ true)
        → is_some (elim c as (λ _. Listing) [
          | true ↦ visit y
          | false ↦ record { entries = (visit y).entries + (in_turn visit xs).entries; found = (in_turn visit xs).found }
        ]).found ≡ true
    by b same is true some rest = some
    by false other is false none rest = rest is
    by true same is false none rest = grind (arith, is_some, eqb-true)

-- a time of the timetable may be settled
settled_holds : (sets : List (List ℕ)) (times : List ℕ) (event : ℕ) → Holds sets times
    → event < length times → Holds (with_time sets event (time_of times event)) times
settled_holds sets [] event h inside = absurd (omega (arith, inside))
settled_holds [] (time ∷ times) event h inside = absurd h
settled_holds (set ∷ sets) (time ∷ times) zero h inside =
    (ap (λ b. b || false) (eq-eqb time time refl), h.1)
settled_holds (set ∷ sets) (time ∷ times) (suc event) h inside =
    (h.0, settled_holds sets times event h.1 (omega (arith, inside)))

-- then one event less has several times
pub fewer_settled : (sets : List (List ℕ)) (event time : ℕ) → event < length sets
    → has_several (left_to sets event) ≡ true → several_in (with_time sets event time) < several_in sets
fewer_settled [] event time inside several = absurd (omega (arith, inside))
fewer_settled (set ∷ sets) zero time inside several = grind arith
fewer_settled (set ∷ sets) (suc event) time inside several = grind (
  arith,
  cases_Bool,
  fewer_settled
      sets event time (omega (arith, inside)) several,
)

held_length : (sets : List (List ℕ)) (times : List ℕ) → Holds sets times → length sets ≡ length times
held_length [] [] h = refl
held_length [] (time ∷ times) h = absurd h
held_length (set ∷ sets) [] h = absurd h
held_length (set ∷ sets) (time ∷ times) h = ap suc (held_length sets times h.1)

-- an event with several times is there
pub several_at : (sets : List (List ℕ)) (event : ℕ) → position has_several sets ≡ Some event
    → (event < length sets) × (has_several (left_to sets event) ≡ true)
several_at sets event is = grind (arith, position-Some)

module _ (problem : Problem) (sound : IsProblem problem) (times : List ℕ)
    (is : IsTimetable problem times) where
  pub found_from : (more : ℕ) (sets : List (List ℕ)) → Holds sets times → several_in sets < more
      → is_some (listing_from more problem sets).found ≡ true
  unfolding listing_from
  found_from zero sets holds few = absurd (omega (arith, few))
  found_from (suc more) sets holds few =
      ap (λ b. is_some (elim b as (λ _. Listing) [
        | true ↦ record { entries = 1; found = None }
        | false ↦ branches left visit (position has_several left)
      ]).found) (no_empty left times here)
      ∙ by (position has_several left) refl
      (λ event. found_from more (with_time left event (time_of times event)))
    where
      left : List (List ℕ)
      left = reduced problem sets

      visit : ℕ → ℕ → Listing
      visit event time = listing_from more problem (with_time left event time)

      here : Holds left times
      here = reduced_keeps problem sound times is sets holds

      by : (o : Option ℕ) → position has_several left ≡ o
          → ((event : ℕ) → Holds (with_time left event (time_of times event)) times
          → several_in (with_time left event (time_of times event)) < more
          → is_some (visit event (time_of times event)).found ≡ true)
          → is_some (branches left visit o).found ≡ true
      by None none rest = refl
      by (Some event) found rest =
          let at = several_at left event found in
          let inside : event < length times = omega (arith, at.0, held_length left times here) in
          turn_finds (visit event) (time_of times event) (left_to left event) (held_at left times event here inside)
          (rest event (settled_holds left times event here inside)
          (omega (arith, few, reduced_several problem sets, fewer_settled left event (time_of times event) at.0 at.1)))
