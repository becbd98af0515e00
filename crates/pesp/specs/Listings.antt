-- The listing of entries up to the first timetable that is found.
use Rattle.std.specs.Prelude.{◌≡◌, ℕ, zero, suc, ◌≤◌, ◌+◌, ◌^◌, ◌==◌, nat_lt, min, is_some, Bool}
use Rattle.std.specs.Prelude.{true, false, if◌then◌else◌}
use Rattle.std.specs.Prelude.{List, [], ◌∷◌, length, map, filter, position, sum, slice_index_or}
use Rattle.std.specs.Prelude.{slice_set}
use Rattle.std.specs.Prelude.{Option, Some, None}
use Rattle.std.specs.List.{list_any, range_with_len}
use Rattle.pesp.specs.Timetables.{Problem, IsTimetable}
use Rattle.pesp.specs.TimeSets.{AreGreatest, LosesNone, RoundsSuffice, left_to, reduced}

-- how many entries are listed, and the times of the entry that is found
pub record Listing : Type 0 where
  pub entries : ℕ
  pub found : Option (List ℕ)

-- no time is left to an event, or several are
abbrev pub is_empty : List ℕ → Bool
is_empty times = length times == 0

abbrev pub has_several : List ℕ → Bool
has_several times = nat_lt 1 (length times)

-- the sets where an event has one time
abbrev pub with_time : List (List ℕ) → ℕ → ℕ → List (List ℕ)
with_time sets event time = slice_set sets event (time ∷ [])

-- one entry that finds nothing, and a listing behind it
abbrev pub one_more : Listing → Listing
one_more rest = record { entries = 1 + rest.entries; found = rest.found }

-- a listing, and behind it another one unless something is found
abbrev pub unless_found : Listing → Listing → Listing
unless_found listed rest =
    elim (is_some listed.found) as (λ _. Listing) [
      | true ↦ listed
      | false ↦ record { entries = listed.entries + rest.entries; found = rest.found }
    ]

-- what is listed for one after the other
unfoldable pub in_turn : {X : Type 0} → (X → Listing) → List X → Listing
in_turn visit [] = record { entries = 0; found = None }
in_turn visit (first ∷ more) = unless_found (visit first) (in_turn visit more)

-- the first time that is left to each event
abbrev pub first_times : List (List ℕ) → List ℕ
first_times sets = map (λ times. slice_index_or times 0 0) sets

-- what one entry lists, by the event that has several times: it is found without one, and else
-- branches, one child for each of its times
abbrev pub branches : List (List ℕ) → (ℕ → ℕ → Listing) → Option ℕ → Listing
branches sets visit None = record { entries = 1; found = Some (first_times sets) }
branches sets visit (Some event) = one_more (in_turn (visit event) (left_to sets event))

-- what one entry lists, whose sets are reduced: it is dead where no time is left to an event
abbrev pub entry : List (List ℕ) → (ℕ → ℕ → Listing) → Listing
entry sets visit =
    elim (list_any is_empty sets) as (λ _. Listing) [
      | true ↦ record { entries = 1; found = None }
      | false ↦ branches sets visit (position has_several sets)
    ]

-- how many events have several times; each branch leaves one less
abbrev pub several_in : List (List ℕ) → ℕ
several_in sets = length (filter has_several sets)

-- what is listed from sets on, over so many branches at most
unfoldable pub listing_from : ℕ → Problem → List (List ℕ) → Listing
listing_from zero problem sets = record { entries = 1; found = None }
listing_from (suc more) problem sets =
    let left = reduced problem sets in
    entry left (λ event time. listing_from more problem (with_time left event time))

-- what is listed from sets on
abbrev pub listing_of : Problem → List (List ℕ) → Listing
listing_of problem sets = listing_from (several_in sets + 1) problem sets

-- these are branches enough: what is listed from sets on is what their entry lists, with what is
-- listed from the sets of each child on
abbrev pub BranchesSuffice : Problem → Type 0
BranchesSuffice problem = (sets : List (List ℕ)) → listing_of problem sets
    ≡ entry (reduced problem sets)
    (λ event time. listing_of problem (with_time (reduced problem sets) event time))

-- the times that are left to an event at first: time 0 to the first one, and all times to every
-- other one
abbrev pub times_at_first : ℕ → ℕ → List ℕ
times_at_first period event = if event == 0 then 0 ∷ [] else range_with_len 0 period

-- the first sets of all events
abbrev pub first_sets : Problem → List (List ℕ)
first_sets problem = map (times_at_first problem.period) (range_with_len 0 problem.events)

-- the listing of a problem
unfoldable pub listing : Problem → Listing
listing problem = listing_of problem (first_sets problem)

-- ---- within a budget

-- how many entries are listed within a budget of entries
abbrev pub entries_listed : ℕ → Listing → ℕ
entries_listed budget listed = min budget listed.entries

-- ---- in the words of the subject

-- what is found is a timetable, and nothing is found only where there is none
abbrev pub Tells : Problem → Option (List ℕ) → Type 0
Tells problem None = (times : List ℕ) → ¬ IsTimetable problem times
Tells problem (Some times) = IsTimetable problem times

-- the number of entries that no listing exceeds: a power of the period for each number of events
abbrev pub most_entries : Problem → ℕ
most_entries problem =
    sum (map (λ events. problem.period ^ events) (range_with_len 0 (problem.events + 1)))

-- sets are dead: the greatest ones within them in which no time is without a partner leave none to
-- some event
abbrev pub AreDead : Problem → List (List ℕ) → Type 0
AreDead problem before = (sets : List (List ℕ)) → AreGreatest problem before sets
    → list_any is_empty sets ≡ true

-- A listing is right: what it finds is a timetable, it finds nothing only where there is none, and
-- it is never longer than that. No timetable is lost where sets are reduced.
pub record ListingIsRight (problem : Problem) : Type 0 where
  pub tells : Tells problem (listing problem).found
  pub short : (listing problem).entries ≤ most_entries problem
  pub loses_none : (sets : List (List ℕ)) → LosesNone problem sets (reduced problem sets)

-- A listing is whole: it has rounds and branches enough, whatever the problem, and what its rounds
-- leave are the greatest sets in which no time is without a partner.
pub record ListingIsWhole (problem : Problem) : Type 0 where
  pub enough_branches : BranchesSuffice problem
  pub enough_rounds : RoundsSuffice problem
  pub greatest : (sets : List (List ℕ)) → AreGreatest problem sets (reduced problem sets)
