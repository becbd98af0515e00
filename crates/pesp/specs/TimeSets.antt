-- The times that are left to events, and what rounds take from them.
use Rattle.std.specs.Prelude.{ℕ, zero, suc, ◌≡◌, ◌==◌, nat_eq, Bool, true, false, not, ◌&&◌, ◌||◌}
use Rattle.std.specs.Prelude.{List, [], length, map, filter, slice_index_or, sum, Contains, All}
use Rattle.std.specs.List.{list_any, list_all, enumerate_from, AllZip}
use Rattle.pesp.specs.declared.activity.PespActivity.{PespActivity}
use Rattle.pesp.specs.Timetables.{Problem, keeps, IsTimetable}

-- the times that are left to an event
abbrev pub left_to : List (List ℕ) → ℕ → List ℕ
left_to sets event = slice_index_or sets event []

-- a time is the first or the second one of two that keep an activity, where the other is left to
-- its event
abbrev pub has_second : ℕ → List (List ℕ) → ℕ → PespActivity → Bool
has_second period sets time activity =
    list_any (keeps period activity time) (left_to sets activity.to)

abbrev pub has_first : ℕ → List (List ℕ) → ℕ → PespActivity → Bool
has_first period sets time activity =
    list_any (λ other. keeps period activity other time) (left_to sets activity.from)

-- a time of an event has a partner on an activity, at whichever end of it the event is
abbrev pub has_partner : ℕ → List (List ℕ) → ℕ → ℕ → PespActivity → Bool
has_partner period sets event time activity =
    (not (activity.from == event) || has_second period sets time activity)
    && (not (activity.to == event) || has_first period sets time activity)

-- a time of an event has a partner on every activity
abbrev pub has_partners : Problem → List (List ℕ) → ℕ → ℕ → Bool
has_partners problem sets event time =
    list_all (has_partner problem.period sets event time) problem.activities

-- a round: every time without a partner on some activity is removed at once
abbrev pub round : Problem → List (List ℕ) → List (List ℕ)
round problem sets =
    map (λ at. filter (has_partners problem sets at.0) at.1) (enumerate_from 0 sets)

-- how many times are left to all events
abbrev pub times_left : List (List ℕ) → ℕ
times_left sets = sum (map length sets)

-- rounds until one removes nothing, so many at most
unfoldable pub rounds : ℕ → Problem → List (List ℕ) → List (List ℕ)
rounds zero problem sets = sets
rounds (suc more) problem sets =
    let next = round problem sets in
    elim (nat_eq (times_left next) (times_left sets)) as (λ _. List (List ℕ)) [
      | true ↦ sets
      | false ↦ rounds more problem next
    ]

-- the reduced sets: each round but the last removes a time, so rounds end when as many were made as
-- there were times
unfoldable pub reduced : Problem → List (List ℕ) → List (List ℕ)
reduced problem sets = rounds (times_left sets) problem sets

-- these are rounds enough: one more removes nothing
abbrev pub RoundsSuffice : Problem → Type 0
RoundsSuffice problem =
    (sets : List (List ℕ)) → round problem (reduced problem sets) ≡ reduced problem sets

-- ---- in the words of the subject

-- each event has only times that it had
abbrev pub AreWithin : List (List ℕ) → List (List ℕ) → Type 0
AreWithin sets others =
    AllZip (λ times before. All (λ time. Contains before time) times) sets others

-- no time is without a partner
abbrev pub ArePartnered : Problem → List (List ℕ) → Type 0
ArePartnered problem sets =
    (event time : ℕ) → Contains (left_to sets event) time
    → has_partners problem sets event time ≡ true

-- the reduced sets are the greatest ones in which no time is without a partner
pub record AreGreatest (problem : Problem) (before sets : List (List ℕ)) : Type 0 where
  pub within : AreWithin sets before
  pub partnered : ArePartnered problem sets
  pub greatest : (others : List (List ℕ)) → AreWithin others before → ArePartnered problem others
      → AreWithin others sets

-- times that are left, one to each event
abbrev pub AreLeft : List (List ℕ) → List ℕ → Type 0
AreLeft sets times = AllZip (λ time left. Contains left time) times sets

-- no timetable is lost
abbrev pub LosesNone : Problem → List (List ℕ) → List (List ℕ) → Type 0
LosesNone problem before after =
    (times : List ℕ) → IsTimetable problem times → AreLeft before times → AreLeft after times
